-- What is written of a number is read as that number.
use Rattle.std.proofs.Common.{◌≡◌, ℕ, zero, suc, eqb, ltb, ◌+◌, ◌-◌, ◌*◌, ◌/◌, ◌%◌, ◌^◌, ◌<◌, ◌≤◌, true, false, ◌&&◌, cond, not, lit<, inl, inr, List, [], ◌∷◌, ◌++◌, length, take, drop, Some, None, ℤ, pos, negsuc, FitsSigned, w64, option_and_then, refl, sym, ap, ap₂, ◌∙◌, subst, arith}
use Rattle.std.specs.Char.{is_ascii_digit, digit_value}
use Rattle.std.specs.List.{list_all, position_or_len, before_first, after_first}
use Rattle.std.specs.Str.Parse.{digits_value, digits_value_after}
use Rattle.std.specs.Fmt.{decimal}
use Rattle.std.proofs.lemmas.Bool.{cases_lt, false≢true}
use Rattle.std.proofs.lemmas.Bool.Decides.{nat_tests}
use Rattle.std.proofs.lemmas.Fmt.{digits_decimal, digits_value-decimal, decimal_nonempty}
use Rattle.std.proofs.lemmas.List.{append-nil, length-append}
use Rattle.std.proofs.Math.Seq.{take-append_seam, drop-append-add}
use Rattle.std.proofs.lemmas.Nat.{div-add-mod'}
use Rattle.std.proofs.Math.Nat.{mod-lt, div-le_self, pow-suc}
use Rattle.number_core.proofs.Fits.{own, fraction_millionths-is, and-true, digits-all}
use Rattle.number_core.proofs.Fraction.{place, digits-suc, below-by}
use Rattle.number_core.specs.NumberText.{fraction_digits, fraction_text, magnitude_text, number_text, is_digits, whole_millionths, fraction_millionths, with_zeros, sum_of, is_point, magnitude, positive_number, negative_number, read_number}

-- a digit
digit : (d : ℕ) → d < 10 → (is_ascii_digit (48 + d) ≡ true) × (digit_value (48 + d) ≡ d)
digit d h = (grind (arith, nat_tests), grind (arith, nat_tests))

-- the digits of a fraction are digits, few, and say it
all-digits : (k r : ℕ) → r < 10 ^ k → list_all is_ascii_digit (fraction_digits k r) ≡ true
all-digits zero r h = refl
all-digits (suc k) r h = elim (cases_lt 0 r) [
  | inl p ↦ ap (list_all is_ascii_digit) (digits-suc k r p) ∙ ap₂ (λ a b. a && b) (digit (r / 10 ^ k) (below-by k r h)).0 (all-digits k (r % 10 ^ k) (mod-lt r (place k)))
  | inr p ↦ ap (λ s. list_all is_ascii_digit (fraction_digits (suc k) s)) (let e : r ≡ 0 = omega arith in e)
]

few-digits : (k r : ℕ) → length (fraction_digits k r) ≤ k
few-digits zero r = omega arith
few-digits (suc k) r = elim (cases_lt 0 r) [
  | inl p ↦ omega (arith, ap length (digits-suc k r p), few-digits k (r % 10 ^ k))
  | inr p ↦ omega (arith, ap (λ s. length (fraction_digits (suc k) s)) (let e : r ≡ 0 = omega arith in e))
]

worked : (n d q m r : ℕ) → d * q + m ≡ r → (n * 10 + d) * q + m ≡ n * (q * 10) + r
worked n d q m r h = omega (arith, h)

nothing : (k n : ℕ) → n * 10 ^ (suc k - 0) ≡ n * 10 ^ suc k + 0
nothing k n = ap (λ i. n * 10 ^ i) (let e : suc k - 0 ≡ suc k = omega arith in e) ∙ (let e : n * 10 ^ suc k ≡ n * 10 ^ suc k + 0 = omega arith in e)

-- after a number n
say : (k r n : ℕ) → r < 10 ^ k → digits_value_after 10 n (fraction_digits k r) * 10 ^ (k - length (fraction_digits k r)) ≡ n * 10 ^ k + r
say zero r n h = omega arith
say (suc k) r n h = elim (cases_lt 0 r) [
  | inl p ↦
      let d = r / 10 ^ k in
      let fd = fraction_digits k (r % 10 ^ k) in
      let P : List ℕ → Type 0 = λ xs. digits_value_after 10 n xs * 10 ^ (suc k - length xs) ≡ n * 10 ^ suc k + r in
      let places : suc k - length ((48 + d) ∷ fd) ≡ k - length fd = omega arith in
      subst P (sym (digits-suc k r p))
      (ap₂ (λ m i. digits_value_after 10 (n * 10 + m) fd * 10 ^ i) (digit d (below-by k r h)).1 places
      ∙ say k (r % 10 ^ k) (n * 10 + d) (mod-lt r (place k))
      ∙ worked n d (10 ^ k) (r % 10 ^ k) r (div-add-mod' r (10 ^ k))
      ∙ ap (λ q. n * q + r) (sym (pow-suc 10 k)))
  | inr p ↦
      let none : 0 ≡ r = omega arith in
      subst (λ (s : ℕ). digits_value_after 10 n (fraction_digits (suc k) s) * 10 ^ (suc k - length (fraction_digits (suc k) s)) ≡ n * 10 ^ suc k + s) none (nothing k n)
]

-- a point stands behind digits
not-sign : (c : ℕ) → is_ascii_digit c ≡ true → (eqb c 46 ≡ false) × (eqb c 45 ≡ false) × (eqb c 43 ≡ false)
not-sign c h = (grind (arith, nat_tests), grind (arith, nat_tests), grind (arith, nat_tests))

point-after : (ds fs : List ℕ) → list_all is_ascii_digit ds ≡ true → position_or_len is_point (ds ++ 46 ∷ fs) ≡ length ds
point-after [] fs h = refl
point-after (c ∷ cs) fs h = let p = and-true _ _ h in
    ap (λ b. cond (not b) (1 + position_or_len is_point (cs ++ 46 ∷ fs)) 0) (not-sign c p.0).0 ∙ ap (λ n. 1 + n) (point-after cs fs p.1) ∙ (let e : 1 + length cs ≡ suc (length cs) = omega arith in e)

no-point : (ds : List ℕ) → list_all is_ascii_digit ds ≡ true → position_or_len is_point ds ≡ length ds
no-point [] h = refl
no-point (c ∷ cs) h = let p = and-true _ _ h in
    ap (λ b. cond (not b) (1 + position_or_len is_point cs) 0) (not-sign c p.0).0 ∙ ap (λ n. 1 + n) (no-point cs p.1) ∙ (let e : 1 + length cs ≡ suc (length cs) = omega arith in e)

same-not-below : (m n : ℕ) → m ≡ n → ltb m n ≡ false
same-not-below m n e = grind (arith, nat_tests)

below : (m n : ℕ) → m < n → ltb m n ≡ true
below m n e = grind (arith, nat_tests)

magnitude-whole_millionths : (ds : List ℕ) → list_all is_ascii_digit ds ≡ true → magnitude ds ≡ whole_millionths ds
magnitude-whole_millionths ds h = ap (λ b. cond b (sum_of (whole_millionths (before_first is_point ds)) (fraction_millionths (after_first is_point ds))) (whole_millionths ds)) (same-not-below (position_or_len is_point ds) (length ds) (no-point ds h))

magnitude-point : (ds fs : List ℕ) → list_all is_ascii_digit ds ≡ true → magnitude (ds ++ 46 ∷ fs) ≡ sum_of (whole_millionths ds) (fraction_millionths fs)
magnitude-point ds fs h =
    let all = ds ++ 46 ∷ fs in
    let at = point-after ds fs h in
    let short : position_or_len is_point all < length all = omega (arith, at, length-append ds (46 ∷ fs)) in
    ap (λ b. cond b (sum_of (whole_millionths (before_first is_point all)) (fraction_millionths (after_first is_point all))) (whole_millionths all)) (below (position_or_len is_point all) (length all) short)
    ∙ ap₂ (λ x y. sum_of (whole_millionths x) (fraction_millionths y)) (ap (λ n. take n all) at ∙ take-append_seam ds (46 ∷ fs)) (ap (λ n. drop (n + 1) all) at ∙ drop-append-add ds (46 ∷ fs) 1)

some-digits : (bs : List ℕ) → 0 < length bs → list_all is_ascii_digit bs ≡ true → is_digits bs ≡ true
some-digits bs h k = ap₂ (λ a b. not a && b) (let e : eqb (length bs) 0 ≡ false = grind (arith, nat_tests) in e) k

whole_millionths-is : (ds : List ℕ) → is_digits ds ≡ true → whole_millionths ds ≡ Some (digits_value 10 ds * 10 ^ 6)
whole_millionths-is ds h = ap (λ b. with_zeros 6 (cond b (Some (digits_value 10 ds)) None)) h

fraction_millionths-digits : (fs : List ℕ) → is_digits fs ≡ true → length fs ≤ 6 → fraction_millionths fs ≡ Some (digits_value 10 fs * 10 ^ (6 - length fs))
fraction_millionths-digits fs h k = fraction_millionths-is fs k ∙ ap (λ b. with_zeros (6 - length fs) (cond b (Some (digits_value 10 fs)) None)) h

some-fraction : (f : ℕ) → 0 < f → fraction_text f ≡ 46 ∷ fraction_digits 6 f
some-fraction f h = ap (λ b. cond b [] (46 ∷ fraction_digits 6 f)) (let e : eqb f 0 ≡ false = grind (arith, nat_tests) in e)

some-digit : (f : ℕ) → 0 < f → 0 < length (fraction_digits 6 f)
some-digit f h = omega (arith, ap length (digits-suc 5 f h))

decimal-all : (n : ℕ) → n < 2 ^ 64 → list_all is_ascii_digit (decimal n) ≡ true
decimal-all n h = digits_decimal own n h

decimal-is : (n : ℕ) → n < 2 ^ 64 → is_digits (decimal n) ≡ true
decimal-is n h = some-digits (decimal n) (decimal_nonempty n h) (decimal-all n h)

pub magnitude-back : (n : ℕ) → n < 2 ^ 64 → magnitude (magnitude_text n) ≡ Some n
magnitude-back n h =
    let q = n / 1000000 in
    let f = n % 1000000 in
    let small : q < 2 ^ 64 = omega (arith, div-le_self n 1000000) in
    let fits : f < 10 ^ 6 = mod-lt n (lit< tt) in
    let again = div-add-mod' n 1000000 in
    let value = digits_value-decimal own q small in
    elim (cases_lt 0 f) [
      | inl p ↦
          let fd = fraction_digits 6 f in
          ap (λ t. magnitude (decimal q ++ t)) (some-fraction f p)
          ∙ magnitude-point (decimal q) fd (decimal-all q small)
          ∙ ap₂ sum_of (whole_millionths-is (decimal q) (decimal-is q small)) (fraction_millionths-digits fd (some-digits fd (some-digit f p) (all-digits 6 f fits)) (few-digits 6 f))
          ∙ ap Some (ap₂ (λ a b. a * 10 ^ 6 + b) value (say 6 f 0 fits) ∙ (let e : q * 10 ^ 6 + (0 * 10 ^ 6 + f) ≡ n = omega (arith, again) in e))
      | inr p ↦
          let none : f ≡ 0 = omega arith in
          ap (λ g. magnitude (decimal q ++ fraction_text g)) none
          ∙ ap magnitude (append-nil (decimal q))
          ∙ magnitude-whole_millionths (decimal q) (decimal-all q small)
          ∙ whole_millionths-is (decimal q) (decimal-is q small)
          ∙ ap Some (ap (λ a. a * 10 ^ 6) value ∙ (let e : q * 10 ^ 6 ≡ n = omega (arith, again, none) in e))
    ]

unsigned-front : (ds rest : List ℕ) → is_digits ds ≡ true → read_number (ds ++ rest) ≡ option_and_then positive_number (magnitude (ds ++ rest))
unsigned-front [] rest h = absurd (false≢true h)
unsigned-front (c ∷ cs) rest h = let p = not-sign c (and-true _ _ (digits-all (c ∷ cs) h)).0 in simp (p.1, p.2)

positive_number-in : (n : ℕ) → n < 2 ^ 63 → positive_number n ≡ Some (pos n)
positive_number-in n h = grind (arith, nat_tests)

negative_number-in : (n : ℕ) → n < 2 ^ 63 → negative_number (n + 1) ≡ Some (negsuc n)
negative_number-in n h = let e : suc n ≡ n + 1 = omega arith in subst (λ (m : ℕ). negative_number m ≡ Some (negsuc n)) e (grind (arith, nat_tests))

pub read-back : (z : ℤ) → FitsSigned w64 z → read_number (number_text z) ≡ Some z
read-back (pos n) h =
    let fits : n < 2 ^ 63 = h.sfits in
    unsigned-front (decimal (n / 1000000)) (fraction_text (n % 1000000)) (decimal-is (n / 1000000) (omega (arith, div-le_self n 1000000)))
    ∙ ap (option_and_then positive_number) (magnitude-back n (omega arith)) ∙ positive_number-in n fits
read-back (negsuc n) h =
    let fits : n < 2 ^ 63 = h.sfits in
    ap (option_and_then negative_number) (magnitude-back (n + 1) (omega arith)) ∙ negative_number-in n fits
