-- An imported formula without the `@`s that import puts.
--   is_put  a run of one automatic `@`, over a node over which import may put one
--   without_put, all_without_put  a formula without these runs, from its root down, and so of each of some formulas: what stands under
--           a run that stays, or inside of a node that import doesn't enter, stays as it is
use Rattle.std.specs.Prelude.{Bool, false, ◌&&◌, ◌||◌, if◌then◌else◌, [], ◌∷◌}
use Rattle.tree_core.specs.Label.{Label}
use Rattle.tree_core.specs.Tree.{Run, Tree, tree, Trees, none, more}
use Rattle.import_core.specs.After.{may_be_range_like}
use Rattle.import_core.specs.ImportOf.{is_bare}
use Rattle.import_core.specs.ImportRule.{is_closed}

abbrev pub is_put : Run → Label → Bool
is_put [] label = false
is_put (flag ∷ []) label = flag && may_be_range_like label
is_put (outer ∷ flag ∷ run) label = false

abbrev mutual
  pub without_put : Tree → Tree
  without_put (tree run label ts) =
      if is_bare run || is_put run label then tree [] label (if is_closed label then ts else all_without_put ts) else tree run label ts

  pub all_without_put : Trees → Trees
  all_without_put none = none
  all_without_put (more t ts) = more (without_put t) (all_without_put ts)
