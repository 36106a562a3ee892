-- One element after the other.
--   read-at  what a loop reads at an index
--   drop-on, take-on   what is to come and what was, with one element more
--   set-first          what was put first, and is set once others stand behind it
use Rattle.std.specs.Prelude.{slice_set}
use Rattle.std.proofs.Common.{◌≡◌, ℕ, zero, suc, ◌+◌, ◌<◌, List, [], ◌∷◌, ◌++◌, Some, drop, take, get_or, length, slice_get, refl, sym, ap, ◌∙◌, arith, append_assoc}

module _ {A : Type 0} where
  pub read-at : (xs : List A) (i : ℕ) (x : A) → i < length xs → x ≡ get_or xs i x → Some x ≡ slice_get xs i
  read-at [] i x within is = absurd (omega arith)
  read-at (first ∷ xs) zero x within is = ap Some is
  read-at (first ∷ xs) (suc i) x within is = read-at xs i x (omega arith) is

  drop-next : (xs : List A) (i : ℕ) (x : A) → Some x ≡ slice_get xs i → drop i xs ≡ x ∷ drop (suc i) xs
  drop-next [] i x h = cc
  drop-next (first ∷ xs) zero x h = let e : x ≡ first = cc in ap (λ y. y ∷ xs) (sym e)
  drop-next (first ∷ xs) (suc i) x h = drop-next xs i x h

  take-next : (xs : List A) (i : ℕ) (x : A) → Some x ≡ slice_get xs i → take (suc i) xs ≡ take i xs ++ x ∷ []
  take-next [] i x h = cc
  take-next (first ∷ xs) zero x h = let e : x ≡ first = cc in ap (λ y. y ∷ []) (sym e)
  take-next (first ∷ xs) (suc i) x h = ap (λ rest. first ∷ rest) (take-next xs i x h)

  pub drop-on : (xs : List A) (i : ℕ) (x : A) → Some x ≡ slice_get xs i → drop i xs ≡ x ∷ drop (i + 1) xs
  drop-on xs i x h = drop-next xs i x h ∙ ap (λ k. x ∷ drop k xs) (let one_more : suc i ≡ i + 1 = omega arith in one_more)

  pub take-on : (xs : List A) (i : ℕ) (x : A) → Some x ≡ slice_get xs i → take (i + 1) xs ≡ take i xs ++ x ∷ []
  take-on xs i x h = ap (λ k. take k xs) (let one_more : i + 1 ≡ suc i = omega arith in one_more) ∙ take-next xs i x h

  set_end : (old below : List A) (first found : A) → slice_set (old ++ first ∷ below) (length old) found ≡ old ++ found ∷ below
  set_end [] below first found = refl
  set_end (a ∷ old) below first found = ap (λ rest. a ∷ rest) (set_end old below first found)

  pub set-first : (old with_first all below : List A) (first found : A) → with_first ≡ old ++ first ∷ [] → all ≡ with_first ++ below → slice_set all (length old) found ≡ old ++ found ∷ below
  set-first old with_first all below first found e f =
      ap (λ xs. slice_set xs (length old) found) (f ∙ ap (λ xs. xs ++ below) e ∙ append_assoc old (first ∷ []) below) ∙ set_end old below first found
