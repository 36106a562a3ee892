-- The digits of a fraction, one by one.
use Rattle.std.proofs.Common.{◌≡◌, ℕ, zero, suc, ◌+◌, ◌-◌, ◌/◌, ◌%◌, ◌^◌, ◌<◌, [], ◌∷◌, refl, sym, ap, ap₂, subst, ◌∙◌, arith}
use Rattle.std.proofs.lemmas.Bool.Decides.{nat_tests}
use Rattle.std.proofs.Math.Nat.{one-le-pow, pow-suc, mod-lt, div-lt_iff_lt-mul}
use Rattle.number_core.specs.NumberText.{fraction_digits}

pub place : (k : ℕ) → 0 < 10 ^ k
place k = omega (arith, one-le-pow k 10 (omega arith))

pub some-place : (p m : ℕ) → m ≡ 10 ^ (p - 1) → 0 < m
some-place p m e = omega (arith, e, place (p - 1))

pub below-by : (n r : ℕ) → r < 10 ^ suc n → r / 10 ^ n < 10
below-by n r h = (div-lt_iff_lt-mul (place n)).1 (omega (arith, pow-suc 10 n))

pub digit-below : (p r m : ℕ) → m ≡ 10 ^ (p - 1) → 0 < p → r < 10 ^ p → r / m < 10
digit-below zero r m e h k = absurd (omega arith)
digit-below (suc n) r m e h k = let f : 10 ^ n ≡ m = ap (λ i. 10 ^ i) (let g : n ≡ suc n - 1 = omega arith in g) ∙ sym e in subst (λ (d : ℕ). r / d < 10) f (below-by n r k)

pub rest-below : (p r m : ℕ) → m ≡ 10 ^ (p - 1) → r % m < 10 ^ (p - 1)
rest-below p r m e = omega (arith, mod-lt r (some-place p m e))

pub digits-suc : (n r : ℕ) → 0 < r → fraction_digits (suc n) r ≡ (48 + r / 10 ^ n) ∷ fraction_digits n (r % 10 ^ n)
digits-suc n r h = grind (arith, nat_tests)

pub digits-more : (p r m : ℕ) → m ≡ 10 ^ (p - 1) → 0 < p → 0 < r → fraction_digits p r ≡ (48 + r / m) ∷ fraction_digits (p - 1) (r % m)
digits-more zero r m e h k = absurd (omega arith)
digits-more (suc n) r m e h k = let g : n ≡ suc n - 1 = omega arith in
    let f : 10 ^ n ≡ m = ap (λ i. 10 ^ i) g ∙ sym e in
    digits-suc n r k ∙ ap₂ (λ (d i : ℕ). (48 + r / d) ∷ fraction_digits i (r % d)) f g

pub digits-none : (p : ℕ) → fraction_digits p 0 ≡ []
digits-none zero = refl
digits-none (suc n) = refl

pub digits-nowhere : (r : ℕ) → fraction_digits 0 r ≡ []
digits-nowhere r = refl
