-- Numbers that fit 64 bits, on the way to a number that is read.
use Rattle.std.proofs.Common.{◌≡◌, ℕ, zero, suc, eqb, ◌+◌, ◌*◌, ◌^◌, ◌<◌, ◌≤◌, Bool, true, false, ◌&&◌, not, nat_eq, cond, inl, inr, List, [], ◌∷◌, length, Option, Some, None, Err, option_and_then, refl, sym, ap, ◌∙◌, ◌-◌, leb, arith, rules}
use Rattle.std.specs.Char.{is_ascii_digit}
use Rattle.std.specs.List.{list_all}
use Rattle.std.specs.Str.Parse.{digits_value, ParsesUnsigned}
use Rattle.std.proofs.lemmas.Bool.{cases_lt, cases_eq, false≢true}
use Rattle.std.proofs.lemmas.Bool.Decides.{nat_tests}
use Rattle.std.proofs.lemmas.Str.Parse.{IsNumeralModel, numerals_by_value, parse_digits}
use Rattle.std.proofs.Math.Nat.{le-mul_of_pos_right}
use Rattle.number_core.proofs.Fraction.{place}
use Rattle.number_core.specs.NumberText.{unsigned_in_range, is_digits, digits_number, fraction_millionths, with_zeros, sum_of, positive_number, negative_number, magnitude, read_number}

pub own : IsNumeralModel (λ ds. list_all is_ascii_digit ds ≡ true) (digits_value 10)
own = numerals_by_value _ (search rules)

pub unsigned_in_range-in : (n : ℕ) → n < 2 ^ 64 → unsigned_in_range n ≡ Some n
unsigned_in_range-in n h = grind (arith, nat_tests)

pub unsigned_in_range-out : (n : ℕ) → 2 ^ 64 ≤ n → unsigned_in_range n ≡ None
unsigned_in_range-out n h = grind (arith, nat_tests)

pub fraction_millionths-is : (bs : List ℕ) → length bs ≤ 6 → fraction_millionths bs ≡ with_zeros (6 - length bs) (digits_number bs)
fraction_millionths-is bs h = ap (λ b. cond b (with_zeros (6 - length bs) (digits_number bs)) None) (let e : leb (length bs) 6 ≡ true = grind (arith, nat_tests) in e)

more-with_zeros : (n k : ℕ) → 0 < k → 2 ^ 64 ≤ n → 2 ^ 64 ≤ n * k
more-with_zeros n k h p = omega (arith, le-mul_of_pos_right n h)

with_zeros-one : (k n : ℕ) → option_and_then unsigned_in_range (with_zeros k (unsigned_in_range n)) ≡ unsigned_in_range (n * 10 ^ k)
with_zeros-one k n = elim (cases_lt n (2 ^ 64)) [
  | inl p ↦ ap (λ o. option_and_then unsigned_in_range (with_zeros k o)) (unsigned_in_range-in n p)
  | inr p ↦ ap (λ o. option_and_then unsigned_in_range (with_zeros k o)) (unsigned_in_range-out n p) ∙ sym (unsigned_in_range-out (n * 10 ^ k) (more-with_zeros n (10 ^ k) (place k) p))
]

pub with_zeros-fits : (k : ℕ) (o : Option ℕ) → option_and_then unsigned_in_range (with_zeros k (option_and_then unsigned_in_range o)) ≡ option_and_then unsigned_in_range (with_zeros k o)
with_zeros-fits k None = refl
with_zeros-fits k (Some n) = with_zeros-one k n

pub fraction_millionths-fits : (bs : List ℕ) → length bs ≤ 6 → option_and_then unsigned_in_range (with_zeros (6 - length bs) (option_and_then unsigned_in_range (digits_number bs))) ≡ option_and_then unsigned_in_range (fraction_millionths bs)
fraction_millionths-fits bs h = with_zeros-fits (6 - length bs) (digits_number bs) ∙ ap (option_and_then unsigned_in_range) (sym (fraction_millionths-is bs h))

sum_of-one : (m n : ℕ) → option_and_then unsigned_in_range (sum_of (unsigned_in_range m) (unsigned_in_range n)) ≡ unsigned_in_range (m + n)
sum_of-one m n = elim (cases_lt m (2 ^ 64)) [
  | inl p ↦ elim (cases_lt n (2 ^ 64)) [
    | inl q ↦ ap (λ o. option_and_then unsigned_in_range (sum_of o (unsigned_in_range n))) (unsigned_in_range-in m p) ∙ ap (λ o. option_and_then unsigned_in_range (sum_of (Some m) o)) (unsigned_in_range-in n q)
    | inr q ↦ ap (λ o. option_and_then unsigned_in_range (sum_of o (unsigned_in_range n))) (unsigned_in_range-in m p) ∙ ap (λ o. option_and_then unsigned_in_range (sum_of (Some m) o)) (unsigned_in_range-out n q) ∙ sym (unsigned_in_range-out (m + n) (omega arith))
  ]
  | inr p ↦ ap (λ o. option_and_then unsigned_in_range (sum_of o (unsigned_in_range n))) (unsigned_in_range-out m p) ∙ sym (unsigned_in_range-out (m + n) (omega arith))
]

nothing-right : (o : Option ℕ) → sum_of o None ≡ None
nothing-right None = refl
nothing-right (Some n) = refl

pub sum_of-fits : (a b : Option ℕ) → option_and_then unsigned_in_range (sum_of (option_and_then unsigned_in_range a) (option_and_then unsigned_in_range b)) ≡ option_and_then unsigned_in_range (sum_of a b)
sum_of-fits None b = refl
sum_of-fits (Some m) None = ap (option_and_then unsigned_in_range) (nothing-right (unsigned_in_range m))
sum_of-fits (Some m) (Some n) = sum_of-one m n

pub and-true : (a b : Bool) → (a && b) ≡ true → (a ≡ true) × (b ≡ true)
and-true true true h = (refl, refl)
and-true true false h = (refl, h)
and-true false b h = absurd (false≢true h)

pub digits-some : (bs : List ℕ) → is_digits bs ≡ true → 0 < length bs
digits-some [] h = absurd (false≢true h)
digits-some (b ∷ bs) h = omega arith

pub digits-all : (bs : List ℕ) → is_digits bs ≡ true → list_all is_ascii_digit bs ≡ true
digits-all bs h = (and-true (not (nat_eq (length bs) 0)) (list_all is_ascii_digit bs) h).1

pub unread : {E : Type 0} (bs : List ℕ) (e : E) → is_digits bs ≡ true → ParsesUnsigned 64 10 bs (Err e) → None ≡ option_and_then unsigned_in_range (digits_number bs)
unread {E} bs e d h = elim (cases_lt (digits_value 10 bs) (2 ^ 64)) [
  | inl p ↦ absurd (parse_digits own 64 bs (Err e) h (digits-all bs d) (digits-some bs d, p))
  | inr p ↦ sym (ap (λ b. option_and_then unsigned_in_range (cond b (Some (digits_value 10 bs)) None)) d ∙ unsigned_in_range-out (digits_value 10 bs) p)
]

pub is-true : (b d : Bool) → b ≡ true → b ≡ d → d ≡ true
is-true b d h e = sym e ∙ h

positive_number-out : (n : ℕ) → 2 ^ 64 ≤ n → positive_number n ≡ None
positive_number-out n h = grind (arith, nat_tests)

negative_number-out : (n : ℕ) → 2 ^ 64 ≤ n → negative_number n ≡ None
negative_number-out zero h = absurd (omega arith)
negative_number-out (suc n) h = grind (arith, nat_tests)

pub positive_number-fits : (o : Option ℕ) → option_and_then positive_number (option_and_then unsigned_in_range o) ≡ option_and_then positive_number o
positive_number-fits None = refl
positive_number-fits (Some n) = elim (cases_lt n (2 ^ 64)) [
  | inl p ↦ ap (option_and_then positive_number) (unsigned_in_range-in n p)
  | inr p ↦ ap (option_and_then positive_number) (unsigned_in_range-out n p) ∙ sym (positive_number-out n p)
]

pub negative_number-fits : (o : Option ℕ) → option_and_then negative_number (option_and_then unsigned_in_range o) ≡ option_and_then negative_number o
negative_number-fits None = refl
negative_number-fits (Some n) = elim (cases_lt n (2 ^ 64)) [
  | inl p ↦ ap (option_and_then negative_number) (unsigned_in_range-in n p)
  | inr p ↦ ap (option_and_then negative_number) (unsigned_in_range-out n p) ∙ sym (negative_number-out n p)
]

other : (c d : ℕ) (cs : List ℕ) → ((rest : List ℕ) → c ∷ cs ≡ d ∷ rest → ⊥) → eqb c d ≡ false
other c d cs h = elim (cases_eq c d) [ inl p ↦ absurd (h cs (ap (λ x. x ∷ cs) p)) | inr p ↦ grind (arith, nat_tests) ]

pub unsigned : (bs : List ℕ) → ((rest : List ℕ) → bs ≡ 45 ∷ rest → ⊥) → ((rest : List ℕ) → bs ≡ 43 ∷ rest → ⊥) → option_and_then positive_number (magnitude bs) ≡ read_number bs
unsigned [] h k = refl
unsigned (c ∷ cs) h k = simp (other c 45 cs h, other c 43 cs k)

pub ruleset fits = (with_zeros-fits, sum_of-fits, unread)
