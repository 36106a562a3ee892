-- Where in a tree.
--   Place     a path of child numbers from the root, each from 0. Two trees with one skeleton have the same places
--   child     a child by its number, where there is one
--   at        the tree at a place, where there is one
--   run_at    the run of `@`s over a place: empty where the place is bare
--   with_runs the tree with other runs, given place by place
--   RunsFixTheTree  a tree is fixed by its skeleton and its runs
use Rattle.std.specs.Prelude.{◌≡◌, ℕ, zero, suc, List, [], ◌∷◌, Option, Some, None}
use Rattle.std.specs.Option.{option_map_or}
use Rattle.tree_core.specs.Tree.{Run, Tree, tree, Trees, none, more, run_of, children_of, skeleton}

abbrev pub Place : Type 0
Place = List ℕ

abbrev pub child : Trees → ℕ → Option Tree
child none i = None
child (more t ts) zero = Some t
child (more t ts) (suc i) = child ts i

abbrev pub at : Tree → Place → Option Tree
at t [] = Some t
at t (i ∷ place) = option_map_or (λ c. at c place) (child (children_of t) i) None

abbrev pub run_at : Tree → Place → Run
run_at t place = option_map_or run_of (at t place) []

abbrev mutual
  pub with_runs : Tree → (Place → Run) → Tree
  with_runs (tree run label children) runs = tree (runs []) label (all_with_runs children (λ i place. runs (i ∷ place)))

  pub all_with_runs : Trees → (ℕ → Place → Run) → Trees
  all_with_runs none runs = none
  all_with_runs (more t ts) runs = more (with_runs t (runs 0)) (all_with_runs ts (λ i. runs (suc i)))

-- two trees with one skeleton and the same run at each place are one tree
abbrev pub RunsFixTheTree : Type 0
RunsFixTheTree = (a b : Tree) → skeleton a ≡ skeleton b → ((place : Place) → run_at a place ≡ run_at b place) → a ≡ b
