-- The number that few digits say.
--   room-before   so many digits say less than so much
--   room-more     one digit more
--   digit-is      what the digit at a place is
--   digits-more   the number of one digit more
--   few           seven digits at most
use Rattle.std.proofs.Common.{◌≡◌, ℕ, suc, ◌+◌, ◌-◌, ◌*◌, ◌^◌, ◌<◌, ◌≤◌, Bool, true, false, List, length, get_or, take, refl, ap, sym, ◌∙◌, arith}
use Rattle.std.specs.Char.{is_ascii_digit, digit_value}
use Rattle.std.specs.List.{list_all}
use Rattle.std.specs.Str.Parse.{digits_value}
use Rattle.std.proofs.lemmas.Bool.{false≢true}
use Rattle.std.proofs.lemmas.Bool.Decides.{nat_tests}
use Rattle.std.proofs.lemmas.List.Folds.{list_all_at}
use Rattle.std.proofs.lemmas.Int.Digits.{digits_value_more}
use Rattle.std.proofs.Math.Nat.{pow-le-pow_right, pow-suc}

pub room-before : (n i m : ℕ) → n < 10 ^ i → i ≤ m → n < 10 ^ m
room-before n i m h k = let ten : 0 < 10 = omega arith in let p : 10 ^ i ≤ 10 ^ m = pow-le-pow_right ten k in omega (arith, h, p)

pub room-more : (n i d : ℕ) → n < 10 ^ i → d < 10 → n * 10 + d < 10 ^ (i + 1)
room-more n i d h k =
    let next : 10 ^ (i + 1) ≡ 10 ^ suc i = ap (λ j. 10 ^ j) (let e : i + 1 ≡ suc i = omega arith in e) in
    omega (arith, next, pow-suc 10 i)

-- of a place at which the test of digits has some answer
true-at : (ds : List ℕ) (i : ℕ) (answer : Bool) → is_ascii_digit (get_or ds i 0) ≡ answer → i < length ds → list_all is_ascii_digit ds ≡ true → answer ≡ true
true-at ds i true e h all = refl
true-at ds i false e h all = absurd (false≢true (sym (list_all_at is_ascii_digit ds i 0 h e) ∙ all))

pub of-digit : (c : ℕ) → is_ascii_digit c ≡ true → (digit_value c ≡ c - 48) × (c - 48 < 10) × (48 ≤ c)
of-digit c h = (grind (arith, nat_tests), grind (arith, nat_tests), grind (arith, nat_tests))

pub digit-is : (ds : List ℕ) (i : ℕ) → i < length ds → list_all is_ascii_digit ds ≡ true → (digit_value (get_or ds i 0) ≡ get_or ds i 0 - 48) × (get_or ds i 0 - 48 < 10) × (48 ≤ get_or ds i 0)
digit-is ds i h all = of-digit (get_or ds i 0) (true-at ds i (is_ascii_digit (get_or ds i 0)) refl h all)

pub digits-more : (ds : List ℕ) (i n d : ℕ) → i < length ds → list_all is_ascii_digit ds ≡ true → n ≡ digits_value 10 (take i ds) → d ≡ get_or ds i 0 - 48 → n * 10 + d ≡ digits_value 10 (take (i + 1) ds)
digits-more ds i n d h all e f = omega (arith, e, f, (digit-is ds i h all).0, digits_value_more 10 ds i h)
