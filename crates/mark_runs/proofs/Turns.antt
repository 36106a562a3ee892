-- What is known of a formula once its put `@`s go or stand again, by its class.
--   turned-under   under one more `@`
--   calls-are      its calls
--   parts          what is to come of a row, once a part of it is set
use Rattle.std.proofs.Common.{◌≡◌, ℕ, zero, suc, ◌+◌, ◌≤◌, List, [], ◌∷◌, map, drop, slice_get, Some, None, Bool, true, false, ◌&&◌, if◌then◌else◌, refl, sym, ap, ap₂, ◌∙◌, arith}
use Rattle.std.proofs.lemmas.List.Sums.{sum_by-cons}
use Rattle.std.specs.Prelude.{sum, slice_set}
use Rattle.kind_table.specs.Table.{Table}
use Rattle.tree_core.specs.Formula.{tree_of}
use Rattle.tree_core.specs.Tree.{Tree, tree, forest, under, run_of, label_of}
use Rattle.tree_core.specs.declared.node.Node.{Node}
use Rattle.tree_core.proofs.Parts.{drop-on}
use Rattle.import_core.specs.After.{may_be_range_like}
use Rattle.import_core.specs.ImportOf.{is_bare}
use Rattle.mark_core.specs.declared.mark.Mark.{Mark}
use Rattle.mark_core.specs.Mark.{calls_in}
use Rattle.mark_core.proofs.Counts.{calls-are}
use Rattle.mark_runs.specs.Turned.{Row, covered, turned, turned_part, turned_row}

if-same : {A : Type 0} (b : Bool) (x : A) → (if b then x else x) ≡ x
if-same true x = refl
if-same false x = refl

pub turned-under : (table : Table) (out : Bool) (mark : Mark) (automatic : Bool) (t : Tree) → turned table out mark (under automatic t)
    ≡ (if automatic && is_bare (run_of t) && may_be_range_like (label_of t) then (if out then turned table out mark t else covered (turned table out mark t)) else mark)
turned-under table out mark true (tree [] label ts) = refl
turned-under table out mark false (tree [] label ts) = refl
turned-under table out mark true (tree (flag ∷ run) label ts) = refl
turned-under table out mark false (tree (flag ∷ run) label ts) = refl

drop-set : {A : Type 0} (xs : List A) (i : ℕ) (x : A) → drop (suc i) (slice_set xs i x) ≡ drop (suc i) xs
drop-set [] i x = refl
drop-set (y ∷ xs) zero x = refl
drop-set (y ∷ xs) (suc i) x = drop-set xs i x

some_same : {A : Type 0} {x y : A} → Some x ≡ Some y → x ≡ y
some_same e = cc

drop-at : {A : Type 0} (xs : List A) (i : ℕ) (x : A) → slice_get xs i ≡ Some x → drop i xs ≡ x ∷ drop (suc i) xs
drop-at [] i x h = cc
drop-at (y ∷ xs) zero x h = ap (λ z. z ∷ xs) (some_same h)
drop-at (y ∷ xs) (suc i) x h = drop-at xs i x h

drop-none : {A : Type 0} (xs : List A) (i : ℕ) → slice_get xs i ≡ None → drop (suc i) xs ≡ drop i xs
drop-none [] zero h = refl
drop-none [] (suc i) h = refl
drop-none (y ∷ xs) zero h = cc
drop-none (y ∷ xs) (suc i) h = drop-none xs i h

one_more : (i : ℕ) → i + 1 ≡ suc i
one_more i = omega arith

-- what is to come once a part is set
pub calls-set : (marks new : List Mark) (i : ℕ) (part other : Mark) → slice_get marks i ≡ Some part → new ≡ slice_set marks i other → calls_in part + sum (map calls_in (drop (i + 1) new)) ≡ sum (map calls_in (drop i marks))
calls-set marks new i part other h is =
    let rest : drop (i + 1) new ≡ drop (suc i) marks = ap (λ ms. drop (i + 1) ms) is ∙ ap (λ k. drop k (slice_set marks i other)) (one_more i) ∙ drop-set marks i other in
    ap (λ ms. calls_in part + sum (map calls_in ms)) rest ∙ sym (ap (λ ms. sum (map calls_in ms)) (drop-at marks i part h) ∙ sum_by-cons (λ n. n) (calls_in part) (map calls_in (drop (suc i) marks)))

pub calls-none : (marks : List Mark) (i : ℕ) → slice_get marks i ≡ None → sum (map calls_in (drop (i + 1) marks)) ≡ sum (map calls_in (drop i marks))
calls-none marks i h = ap (λ ms. sum (map calls_in ms)) (ap (λ k. drop k marks) (one_more i) ∙ drop-none marks i h)

pub counted-set : (marks : List Mark) (i : ℕ) (part other : Mark) (from s : ℕ) → slice_get marks i ≡ Some part → s ≤ from + calls_in part
    → s + sum (map calls_in (drop (i + 1) (slice_set marks i other))) ≤ from + sum (map calls_in (drop i marks))
counted-set marks i part other from s h k = omega (arith, calls-set marks (slice_set marks i other) i part other h refl)

-- one part after the other
pub row-on : (table : Table) (out : Bool) (items : List Node) (i : ℕ) (arg : Node) (row new whole : Row) → Some arg ≡ slice_get items i → new ≡ turned_part table out row i (tree_of arg)
    → turned_row table out row i (forest (map tree_of (drop i items))) ≡ whole → turned_row table out new (i + 1) (forest (map tree_of (drop (i + 1) items))) ≡ whole
row-on table out items i arg row new whole at is known =
    ap₂ (λ r k. turned_row table out r k (forest (map tree_of (drop (i + 1) items)))) is (one_more i)
    ∙ sym (ap (λ xs. turned_row table out row i (forest (map tree_of xs))) (drop-on items i arg at)) ∙ known

pub ruleset turns = (turned-under, calls-are)
