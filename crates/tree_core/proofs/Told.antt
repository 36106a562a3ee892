-- Formulas with their flags told or not.
--   told_one     with the flags told they are one exactly where the formulas are
--   told_alike   with the flags not told, exactly where the trees are alike
--   same_views   they are one exactly where the same stands at the roots, over parts that are
use Rattle.std.proofs.Common.{◌≡◌, ◌↔◌, ℕ, zero, suc, ◌+◌, ◌≤◌, Bool, true, false, List, [], ◌∷◌, ◌++◌, Some, None, option_map, map, length, take, slice_get, refl, sym, ap, ap₂, ◌∙◌, subst, arith}
use Rattle.std.proofs.Math.Nat.{suc_inj}
use Rattle.std.proofs.lemmas.List.{length-map}
use Rattle.std.specs.Option.{option_map_or}
use Rattle.tree_core.specs.Tree.{Run, Tree, tree, Trees, none, more, forest, under, run_of, skeleton, skeletons}
use Rattle.tree_core.specs.Place.{Place, child, at, run_at}
use Rattle.tree_core.specs.Formula.{tree_of}
use Rattle.tree_core.specs.Flags.{Alike, told_flag, told_run, told_here, told, all_told}
use Rattle.tree_core.specs.View.{Here, over, here_in, parts_in, tree_in}
use Rattle.tree_core.specs.View as view
use Rattle.tree_core.specs.declared.node.Node.{Node}
use Rattle.tree_core.specs.declared.view.View.{View}
use Rattle.tree_core.proofs.Places.{runs_fix_the_tree}
use Rattle.tree_core.proofs.Readback.{one_tree}
use Rattle.tree_core.proofs.Views.{Fits, fits, part-falls}

told_run-all : (run : Run) → told_run true run ≡ run
told_run-all [] = refl
told_run-all (automatic ∷ run) = ap (λ r. automatic ∷ r) (told_run-all run)

mutual
  told-all : (t : Tree) → told true t ≡ t
  told-all (tree run l ts) = ap₂ (λ r us. tree r l us) (told_run-all run) (all_told-all ts)

  all_told-all : (ts : Trees) → all_told true ts ≡ ts
  all_told-all none = refl
  all_told-all (more t ts) = ap₂ more (told-all t) (all_told-all ts)

pub told-one : (a b : Node) → (told true (tree_of a) ≡ told true (tree_of b)) ↔ (a ≡ b)
told-one a b = (
  λ e. one_tree a b (sym (told-all (tree_of a)) ∙ e ∙ told-all (tree_of b)),
  λ e. ap (λ node. told true (tree_of node)) e,
)

pub ruleset told_one = (told-one)

mutual
  skeleton-all_set : (t : Tree) → skeleton (told false t) ≡ skeleton t
  skeleton-all_set (tree run label children) = ap (tree [] label) (skeletons-all_sets children)

  skeletons-all_sets : (ts : Trees) → skeletons (all_told false ts) ≡ skeletons ts
  skeletons-all_sets none = refl
  skeletons-all_sets (more t ts) = ap₂ more (skeleton-all_set t) (skeletons-all_sets ts)

mutual
  at-all_set : (t : Tree) (place : Place) → at (told false t) place ≡ option_map (told false) (at t place)
  at-all_set t [] = refl
  at-all_set (tree run label children) (i ∷ place) = at-all_sets children i place

  at-all_sets : (ts : Trees) (i : ℕ) (place : Place)
      → option_map_or (λ c. at c place) (child (all_told false ts) i) None ≡ option_map (told false) (option_map_or (λ c. at c place) (child ts i) None)
  at-all_sets none i place = refl
  at-all_sets (more t ts) zero place = at-all_set t place
  at-all_sets (more t ts) (suc i) place = at-all_sets ts i place

run_of-all_set : (t : Tree) → run_of (told false t) ≡ told_run false (run_of t)
run_of-all_set (tree run label children) = refl

run_at-all_set : (t : Tree) (place : Place) → run_at (told false t) place ≡ told_run false (run_at t place)
run_at-all_set t place =
    ap (λ o. option_map_or run_of o []) (at-all_set t place)
    ∙ elim (at t place) as (λ o. option_map_or run_of (option_map (told false) o) [] ≡ told_run false (option_map_or run_of o [])) [
      | None ↦ refl
      | Some s ↦ run_of-all_set s
    ]

one_length : (r s : Run) → length r ≡ length s → told_run false r ≡ told_run false s
one_length [] [] e = refl
one_length [] (b ∷ s) e = cc
one_length (a ∷ r) [] e = cc
one_length (a ∷ r) (b ∷ s) e = ap (λ run. true ∷ run) (one_length r s (suc_inj e))

pub alike : (a b : Tree) → (told false a ≡ told false b) ↔ Alike a b
alike a b = (
  λ e. (
    sym (skeleton-all_set a) ∙ ap skeleton e ∙ skeleton-all_set b,
    λ place. sym (length-map (run_at a place) (told_flag false))
        ∙ ap length (sym (run_at-all_set a place) ∙ ap (λ t. run_at t place) e ∙ run_at-all_set b place)
        ∙ length-map (run_at b place) (told_flag false),
  ),
  λ same. runs_fix_the_tree (told false a) (told false b) (skeleton-all_set a ∙ same.0 ∙ sym (skeleton-all_set b))
      (λ place. run_at-all_set a place ∙ one_length (run_at a place) (run_at b place) (same.1 place) ∙ sym (run_at-all_set b place)),
)

pub ruleset told_alike = (alike)

-- ---- what stands at the roots, and the parts

all_told-forest : (flags : Bool) (nodes : List Node) → all_told flags (forest (map tree_of nodes)) ≡ forest (map (λ node. told flags (tree_of node)) nodes)
all_told-forest flags [] = refl
all_told-forest flags (node ∷ nodes) = ap (more (told flags (tree_of node))) (all_told-forest flags nodes)

forest-inj : (ts us : List Tree) → forest ts ≡ forest us → ts ≡ us
forest-inj [] [] e = refl
forest-inj [] (u ∷ us) e = cc
forest-inj (t ∷ ts) [] e = cc
forest-inj (t ∷ ts) (u ∷ us) e = let p : t ≡ u = cc in let q : forest ts ≡ forest us = cc in ap₂ (λ x xs. x ∷ xs) p (forest-inj ts us q)

same_over : (flags : Bool) (h k : Here) (ts us : Trees) → Fits h ts → Fits k us
    → (told flags (over h ts) ≡ told flags (over k us)) ↔ ((told_here flags h ≡ told_here flags k) × (all_told flags ts ≡ all_told flags us))
same_over flags (view.bare l) (view.bare m) ts us f g = (λ e. (cc, cc), λ e. let p : l ≡ m = (let q : view.bare l ≡ view.bare m = e.0 in cc) in let q : all_told flags ts ≡ all_told flags us = e.1 in cc)
same_over flags (view.bare l) (view.at b) ts (more (tree run m us) none) f g = (λ e. cc, λ e. let q : view.bare l ≡ view.at (told_flag flags b) = e.0 in cc)
same_over flags (view.at a) (view.bare m) (more (tree run l ts) none) us f g = (λ e. cc, λ e. let q : view.at (told_flag flags a) ≡ view.bare m = e.0 in cc)
same_over flags (view.at a) (view.at b) (more (tree run l ts) none) (more (tree run' m us) none) f g = (
  λ e. (cc, cc),
  λ e. let p : view.at (told_flag flags a) ≡ view.at (told_flag flags b) = e.0 in let q : more (tree (told_run flags run) l (all_told flags ts)) none ≡ more (tree (told_run flags run') m (all_told flags us)) none = e.1 in cc,
)
same_over flags h (view.at b) ts none f g = absurd g
same_over flags h (view.at b) ts (more t (more u us)) f g = absurd g
same_over flags (view.at a) k none us f g = absurd f
same_over flags (view.at a) k (more t (more u ts)) us f g = absurd f

abbrev pub Same : Bool → List Node → List Node → Type 0
Same flags nodes others = map (λ node. told flags (tree_of node)) nodes ≡ map (λ node. told flags (tree_of node)) others

pub same-views : (flags : Bool) (v w : View) → (told flags (tree_in v) ≡ told flags (tree_in w)) ↔ ((told_here flags (here_in v) ≡ told_here flags (here_in w)) × Same flags (parts_in v) (parts_in w))
same-views flags v w =
    let h = same_over flags (here_in v) (here_in w) (forest (map tree_of (parts_in v))) (forest (map tree_of (parts_in w))) (fits v) (fits w) in (
      λ e. ((h.0 e).0, forest-inj _ _ (sym (all_told-forest flags (parts_in v)) ∙ (h.0 e).1 ∙ all_told-forest flags (parts_in w))),
      λ e. h.1 (e.0, all_told-forest flags (parts_in v) ∙ ap forest e.1 ∙ sym (all_told-forest flags (parts_in w))),
    )

-- ---- part by part

module _ (f : Node → Tree) where
  pub one-more : (parts others : List Node) (i : ℕ) (part other : Node) → Some part ≡ slice_get parts i → Some other ≡ slice_get others i → f part ≡ f other
      → map f (take i parts) ≡ map f (take i others) → map f (take (suc i) parts) ≡ map f (take (suc i) others)
  one-more [] others i part other h k e before = cc
  one-more (first ∷ parts) [] i part other h k e before = cc
  one-more (first ∷ parts) (second ∷ others) zero part other h k e before = let p : part ≡ first = cc in let q : other ≡ second = cc in cc
  one-more (first ∷ parts) (second ∷ others) (suc i) part other h k e before =
      let p : f first ≡ f second = cc in let q : map f (take i parts) ≡ map f (take i others) = cc in ap₂ (λ x xs. x ∷ xs) p (one-more parts others i part other h k e q)

  pub at-index : (parts others : List Node) (i : ℕ) (part other : Node) → Some part ≡ slice_get parts i → Some other ≡ slice_get others i
      → map f parts ≡ map f others → f part ≡ f other
  at-index [] others i part other h k e = cc
  at-index (first ∷ parts) [] i part other h k e = cc
  at-index (first ∷ parts) (second ∷ others) zero part other h k e = let p : part ≡ first = cc in let q : other ≡ second = cc in cc
  at-index (first ∷ parts) (second ∷ others) (suc i) part other h k e = let q : map f parts ≡ map f others = cc in at-index parts others i part other h k q

pub same-length : (flags : Bool) (parts others : List Node) → Same flags parts others → length parts ≡ length others
same-length flags parts others e = sym (length-map parts _) ∙ ap length e ∙ length-map others _

pub same-nodes : (flags : Bool) (a b : Tree) (v w : View) → a ≡ tree_in v → b ≡ tree_in w
    → (told flags a ≡ told flags b) ↔ ((told_here flags (here_in v) ≡ told_here flags (here_in w)) × Same flags (parts_in v) (parts_in w))
same-nodes flags a b v w e f = (
  λ h. (same-views flags v w).0 (ap (told flags) (sym e) ∙ h ∙ ap (told flags) f),
  λ h. ap (told flags) e ∙ (same-views flags v w).1 h ∙ sym (ap (told flags) f),
)

pub same-on : (flags : Bool) (parts others : List Node) (i : ℕ) (part other : Node) → Some part ≡ slice_get parts i → Some other ≡ slice_get others i
    → told flags (tree_of part) ≡ told flags (tree_of other) → Same flags (take i parts) (take i others) → Same flags (take (i + 1) parts) (take (i + 1) others)
same-on flags parts others i part other h k e before =
    let more_by_one : suc i ≡ i + 1 = omega arith in
    subst (λ n. Same flags (take n parts) (take n others)) more_by_one (one-more (λ node. told flags (tree_of node)) parts others i part other h k e before)

pub same-at : (flags : Bool) (parts others : List Node) (i : ℕ) (part other : Node) → Some part ≡ slice_get parts i → Some other ≡ slice_get others i
    → Same flags parts others → told flags (tree_of part) ≡ told flags (tree_of other)
same-at flags parts others i part other h k e = at-index (λ node. told flags (tree_of node)) parts others i part other h k e

all_taken : {A : Type 0} (xs : List A) (i : ℕ) → length xs ≤ i → take i xs ≡ xs
all_taken [] zero h = refl
all_taken [] (suc i) h = refl
all_taken (x ∷ xs) zero h = absurd (omega arith)
all_taken (x ∷ xs) (suc i) h = ap (λ ys. x ∷ ys) (all_taken xs i (omega arith))

pub same-all : (flags : Bool) (parts others : List Node) (i : ℕ) → length parts ≤ i → length others ≤ i → Same flags (take i parts) (take i others) → Same flags parts others
same-all flags parts others i h k e =
    ap (map (λ node. told flags (tree_of node))) (sym (all_taken parts i h)) ∙ e ∙ ap (map (λ node. told flags (tree_of node))) (all_taken others i k)

pub ruleset sames = (same-nodes, same-length, part-falls)
