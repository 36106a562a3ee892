-- Counts of a formula, by its parts.
--   calls-are, ats-are  at a node, and in the parts
--   calls-part          the calls of one part and of the node are no more than all
--   sum-set             what a sum comes to once one part is another
use Rattle.std.proofs.Common.{◌≡◌, ℕ, zero, suc, ◌+◌, ◌≤◌, List, [], ◌∷◌, map, Some, slice_get, ap, arith}
use Rattle.std.proofs.lemmas.List.Sums.{sum_by-cons}
use Rattle.std.specs.Prelude.{sum, slice_set}
use Rattle.mark_core.specs.declared.mark.Mark.{Mark, fold_out-Mark}
use Rattle.mark_core.specs.Mark.{known_of, parts_of, calls_here, calls_in, ats_here, ats_in}

pub calls-are : (mark : Mark) → calls_in mark ≡ calls_here (known_of mark).form + sum (map calls_in (parts_of mark))
calls-are mark = fold_out-Mark ℕ (λ layer. calls_here layer.known.form + sum layer.parts) mark

pub ats-are : (mark : Mark) → ats_in mark ≡ ats_here (known_of mark).bare + sum (map ats_in (parts_of mark))
ats-are mark = fold_out-Mark ℕ (λ layer. ats_here layer.known.bare + sum layer.parts) mark

some_same : {A : Type 0} {x y : A} → Some x ≡ Some y → x ≡ y
some_same e = cc

module _ (f : Mark → ℕ) where
  first : (mark : Mark) (marks : List Mark) → sum (map f (mark ∷ marks)) ≡ f mark + sum (map f marks)
  first mark marks = sum_by-cons (λ n. n) (f mark) (map f marks)

  at_most_sum : (marks : List Mark) (i : ℕ) (part : Mark) → slice_get marks i ≡ Some part → f part ≤ sum (map f marks)
  at_most_sum [] i part h = cc
  at_most_sum (mark ∷ marks) zero part h = let same : f mark ≡ f part = ap f (some_same h) in omega (arith, first mark marks)
  at_most_sum (mark ∷ marks) (suc i) part h = let below : f part ≤ sum (map f marks) = at_most_sum marks i part h in omega (arith, first mark marks)

  pub sum-set : (marks : List Mark) (i : ℕ) (part new : Mark) → slice_get marks i ≡ Some part → sum (map f (slice_set marks i new)) + f part ≡ sum (map f marks) + f new
  sum-set [] i part new h = cc
  sum-set (mark ∷ marks) zero part new h = let same : f mark ≡ f part = ap f (some_same h) in omega (arith, first mark marks, first new marks)
  sum-set (mark ∷ marks) (suc i) part new h =
      let below : sum (map f (slice_set marks i new)) + f part ≡ sum (map f marks) + f new = sum-set marks i part new h in
      omega (arith, first mark marks, first mark (slice_set marks i new))

pub calls-part : (mark : Mark) (i : ℕ) (part : Mark) → slice_get (parts_of mark) i ≡ Some part → calls_here (known_of mark).form + calls_in part ≤ calls_in mark
calls-part mark i part h =
    let below : calls_in part ≤ sum (map calls_in (parts_of mark)) = at_most_sum calls_in (parts_of mark) i part h in
    let all : calls_in mark ≡ calls_here (known_of mark).form + sum (map calls_in (parts_of mark)) = calls-are mark in
    omega arith
