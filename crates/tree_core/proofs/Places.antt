-- Trees by their skeletons and runs.
use Rattle.std.proofs.Common.{◌≡◌, ℕ, zero, suc, [], ◌∷◌, ◌++◌, Some, None, option_map, refl, sym, ap, ap₂, ◌∙◌, append-nil}
use Rattle.std.specs.Option.{option_map_or}
use Rattle.tree_core.specs.Label.{Label}
use Rattle.tree_core.specs.Tree.{Run, Tree, tree, Trees, none, more, run_of, label_of, children_of, skeleton, skeletons}
use Rattle.tree_core.specs.Place.{Place, child, at, run_at, with_runs, all_with_runs}

abbrev head : Tree → Trees → Tree
head t none = t
head t (more u us) = u

abbrev tail : Trees → Trees
tail none = none
tail (more u us) = us

tree_is : {r s : Run} {l m : Label} {ts us : Trees} → r ≡ s → l ≡ m → ts ≡ us → tree r l ts ≡ tree s m us
tree_is p q e = cc

-- what stands at a place below some children
abbrev run_in : Trees → ℕ → Place → Run
run_in ts i place = option_map_or (λ c. run_at c place) (child ts i) []

run_at-below : (run : Run) (label : Label) (ts : Trees) (i : ℕ) (place : Place) → run_at (tree run label ts) (i ∷ place) ≡ run_in ts i place
run_at-below run label ts i place = elim (child ts i) as (λ c. option_map_or run_of (option_map_or (λ t. at t place) c None) [] ≡ option_map_or (λ t. run_at t place) c []) [ None ↦ refl | Some t ↦ refl ]

pub own_run : (t : Tree) (place : Place) → option_map_or (λ _. run_at t place) (at t place) [] ≡ run_at t place
own_run t place = elim (at t place) as (λ o. option_map_or (λ _. option_map_or run_of o []) o [] ≡ option_map_or run_of o []) [ None ↦ refl | Some s ↦ refl ]

mutual
  fixed : (a b : Tree) → skeleton a ≡ skeleton b → ((place : Place) → run_at a place ≡ run_at b place) → a ≡ b
  fixed (tree run label ts) (tree run' label' us) same runs =
      let below : (i : ℕ) (place : Place) → run_in ts i place ≡ run_in us i place = λ i place. sym (run_at-below run label ts i place) ∙ runs (i ∷ place) ∙ run_at-below run' label' us i place in
      tree_is (runs []) (ap label_of same) (all_fixed ts us (ap children_of same) below)

  all_fixed : (ts us : Trees) → skeletons ts ≡ skeletons us → ((i : ℕ) (place : Place) → run_in ts i place ≡ run_in us i place) → ts ≡ us
  all_fixed none none same runs = refl
  all_fixed none (more u us) same runs = cc
  all_fixed (more t ts) none same runs = cc
  all_fixed (more t ts) (more u us) same runs =
      ap₂ more (fixed t u (ap (head t) same) (λ place. runs zero place)) (all_fixed ts us (ap tail same) (λ i place. runs (suc i) place))

-- where a place is, the tree with other runs has there the tree with the runs from there on
mutual
  at-with_runs : (t : Tree) (runs : Place → Run) (place : Place) → at (with_runs t runs) place ≡ option_map (λ s. with_runs s (λ q. runs (place ++ q))) (at t place)
  at-with_runs t runs [] = refl
  at-with_runs (tree run label ts) runs (i ∷ place) = at-all_with_runs ts (λ i place. runs (i ∷ place)) i place

  at-all_with_runs : (ts : Trees) (runs : ℕ → Place → Run) (i : ℕ) (place : Place)
      → option_map_or (λ c. at c place) (child (all_with_runs ts runs) i) None ≡ option_map (λ s. with_runs s (λ q. runs i (place ++ q))) (option_map_or (λ c. at c place) (child ts i) None)
  at-all_with_runs none runs i place = refl
  at-all_with_runs (more t ts) runs zero place = at-with_runs t (runs 0) place
  at-all_with_runs (more t ts) runs (suc i) place = at-all_with_runs ts (λ i. runs (suc i)) i place

mutual
  pub skeleton-with_runs : (t : Tree) (runs : Place → Run) → skeleton (with_runs t runs) ≡ skeleton t
  skeleton-with_runs (tree run label ts) runs = ap (tree [] label) (skeletons-with_runs ts (λ i place. runs (i ∷ place)))

  skeletons-with_runs : (ts : Trees) (runs : ℕ → Place → Run) → skeletons (all_with_runs ts runs) ≡ skeletons ts
  skeletons-with_runs none runs = refl
  skeletons-with_runs (more t ts) runs = ap₂ more (skeleton-with_runs t (runs 0)) (skeletons-with_runs ts (λ i. runs (suc i)))

run_of-with_runs : (t : Tree) (runs : Place → Run) → run_of (with_runs t runs) ≡ runs []
run_of-with_runs (tree run label ts) runs = refl

-- the run at each place is the one that was given
pub run_at-with_runs : (t : Tree) (runs : Place → Run) (place : Place) → run_at (with_runs t runs) place ≡ option_map_or (λ _. runs place) (at t place) []
run_at-with_runs t runs place =
    ap (λ o. option_map_or run_of o []) (at-with_runs t runs place)
    ∙ elim (at t place) as (λ o. option_map_or run_of (option_map (λ s. with_runs s (λ q. runs (place ++ q))) o) [] ≡ option_map_or (λ _. runs place) o []) [
      | None ↦ refl
      | Some s ↦ run_of-with_runs s (λ q. runs (place ++ q)) ∙ ap runs (append-nil place)
    ]

-- its own runs leave a tree as it is
pub with_runs-run_at : (t : Tree) → with_runs t (run_at t) ≡ t
with_runs-run_at t = fixed (with_runs t (run_at t)) t (skeleton-with_runs t (run_at t)) (λ place. run_at-with_runs t (run_at t) place ∙ own_run t place)

pub runs_fix_the_tree : (a b : Tree) → skeleton a ≡ skeleton b → ((place : Place) → run_at a place ≡ run_at b place) → a ≡ b
runs_fix_the_tree = fixed
