-- A formula with the `@`s over one place dropped.
--   bared, bared_in  the formula without the run at a place; some formulas without the run at a place of one of them
use Rattle.std.specs.Prelude.{ℕ, zero, suc, [], ◌∷◌}
use Rattle.tree_core.specs.Tree.{Tree, tree, Trees, none, more}
use Rattle.tree_core.specs.Place.{Place}

abbrev mutual
  pub bared : Tree → Place → Tree
  bared (tree run label ts) [] = tree [] label ts
  bared (tree run label ts) (i ∷ place) = tree run label (bared_in ts i place)

  pub bared_in : Trees → ℕ → Place → Trees
  bared_in none i place = none
  bared_in (more t ts) zero place = more (bared t place) ts
  bared_in (more t ts) (suc i) place = more t (bared_in ts i place)
