-- The imported formula as a function of the given one.
--   opens         whether import goes on below the root of a tree
--   reached       whether import reaches a place, found on the way down to it
--   imported_run  the run at a place after import
--   import_of     the tree with these runs
--   ImportIsAFunction  it is the one tree that is imported
use Rattle.std.specs.Prelude.{◌≡◌, [], ◌∷◌, Bool, true, false, not, ◌&&◌, ◌||◌, if◌then◌else◌}
use Rattle.std.specs.Option.{option_map_or}
use Rattle.tree_core.specs.Tree.{Run, Tree, tree, label_of, children_of}
use Rattle.tree_core.specs.Place.{Place, child, run_at, with_runs}
use Rattle.import_core.specs.Rule.{Rule, wanted, range_like_at}
use Rattle.import_core.specs.Imported.{merged_run, Imported}

abbrev pub is_bare : Run → Bool
is_bare [] = true
is_bare (flag ∷ run) = false

abbrev pub opens : Rule → Bool → Tree → Bool
opens rule add (tree run label children) = not (rule.closed label) && (is_bare run || (add && rule.range_like label children))

abbrev pub reached : Rule → Bool → Tree → Place → Bool
reached rule add t [] = true
reached rule add t (i ∷ place) = opens rule add t && option_map_or (λ c. reached rule (rule.context add (label_of t) (children_of t) i) c place) (child (children_of t) i) true

abbrev pub imported_run : Rule → Bool → Tree → Place → Run
imported_run rule add t place =
    if reached rule add t place then (if wanted rule add t place && range_like_at rule t place then true ∷ [] else merged_run (run_at t place)) else run_at t place

abbrev pub import_of : Rule → Bool → Tree → Tree
import_of rule add t = with_runs t (imported_run rule add t)

pub record ImportIsAFunction : Type 0 where
  pub exists : (rule : Rule) (add : Bool) (given : Tree) → Imported rule add given (import_of rule add given)
  pub only : (rule : Rule) (add : Bool) (given imported : Tree) → Imported rule add given imported → imported ≡ import_of rule add given
