-- The letters of columns and the digits of rows.
--   letters-are     the letters of a column are one to three letters that say it
--   column-back     the column that they name
--   digits-are      the digits of a row are one to seven digits that say it
--   row-back        the row that they name
--   digits-back     the number that they say
use Rattle.std.proofs.Common.{◌≡◌, ℕ, ◌+◌, ◌-◌, ◌*◌, ◌/◌, ◌%◌, ◌^◌, ◌<◌, ◌≤◌, eqb, ltb, leb, Bool, true, false, ◌&&◌, not, cond, inl, inr, Some, None, List, [], ◌∷◌, length, get_or, refl, sym, ap, ap₂, subst, ◌∙◌, arith, rules}
use Rattle.std.specs.Char.{is_ascii_alphabetic, is_ascii_digit}
use Rattle.std.specs.Fmt.{decimal}
use Rattle.std.specs.List.{list_all}
use Rattle.std.specs.Str.Parse.{digits_value}
use Rattle.std.proofs.lemmas.Bool.{cases_lt}
use Rattle.std.proofs.lemmas.Bool.Decides.{nat_tests}
use Rattle.std.proofs.lemmas.Fmt.{decimal_nonempty, digits_decimal, digits_value-decimal, first_decimal, length-decimal-le}
use Rattle.std.proofs.lemmas.Str.Parse.{IsNumeralModel, numerals_by_value}
use Rattle.address_core.specs.Line.{are_digits, are_letters, column_number, column_of, few_digits, letter, letter_value, letters_after, row_of}

-- one letter
letter-is : (k : ℕ) → k < 26 → (is_ascii_alphabetic (letter k) ≡ true) × (letter_value (letter k) ≡ k + 1)
letter-is k h = (grind (arith, nat_tests), grind (arith, nat_tests))

pub record AreLetters (text : List ℕ) (number : ℕ) : Type 0 where
  pub few : are_letters text ≡ true
  pub some : 1 ≤ length text
  pub all : list_all is_ascii_alphabetic text ≡ true
  pub say : column_number text ≡ number

one-letter : (a m : ℕ) → a < 26 → m ≡ a → AreLetters (letter a ∷ []) (m + 1)
one-letter a m h e =
    let x = letter-is a h in
    record {
      few = ap (λ p. p && true) x.0;
      some = omega arith;
      all = ap (λ p. p && true) x.0;
      say = ap (λ v. 0 * 26 + v) x.1 ∙ (let f : 0 * 26 + (a + 1) ≡ m + 1 = omega (arith, e) in f);
    }

two-letters : (a b m : ℕ) → a < 26 → b < 26 → m ≡ 26 * a + b + 26 → AreLetters (letter a ∷ letter b ∷ []) (m + 1)
two-letters a b m h k e =
    let x = letter-is a h in
    let y = letter-is b k in
    record {
      few = ap₂ (λ p q. p && (q && true)) x.0 y.0;
      some = omega arith;
      all = ap₂ (λ p q. p && (q && true)) x.0 y.0;
      say = ap₂ (λ u v. (0 * 26 + u) * 26 + v) x.1 y.1 ∙ (let f : (0 * 26 + (a + 1)) * 26 + (b + 1) ≡ m + 1 = omega (arith, e) in f);
    }

three-letters : (a b c m : ℕ) → a < 26 → b < 26 → c < 26 → m ≡ 676 * a + 26 * b + c + 702 → AreLetters (letter a ∷ letter b ∷ letter c ∷ []) (m + 1)
three-letters a b c m h k j e =
    let x = letter-is a h in
    let y = letter-is b k in
    let z = letter-is c j in
    record {
      few = ap₂ (λ p q. p && q) x.0 (ap₂ (λ p q. p && (q && true)) y.0 z.0);
      some = omega arith;
      all = ap₂ (λ p q. p && q) x.0 (ap₂ (λ p q. p && (q && true)) y.0 z.0);
      say =
          ap₂ (λ u v. ((0 * 26 + u) * 26 + v) * 26 + letter_value (letter c)) x.1 y.1
          ∙ ap (λ w. ((0 * 26 + (a + 1)) * 26 + (b + 1)) * 26 + w) z.1
          ∙ (let f : ((0 * 26 + (a + 1)) * 26 + (b + 1)) * 26 + (c + 1) ≡ m + 1 = omega (arith, e) in f);
    }

-- the choice between one, two and three letters
below : (m n : ℕ) → m < n → ltb m n ≡ true
below m n h = grind (arith, nat_tests)

not-below : (m n : ℕ) → n ≤ m → ltb m n ≡ false
not-below m n h = grind (arith, nat_tests)

after-letters : (m : ℕ) → m < 16384 → AreLetters (letters_after m) (m + 1)
after-letters m small = elim (cases_lt m 26) [
  | inl h ↦ subst (λ text. AreLetters text (m + 1)) (sym (ap (λ b. cond b (letter m ∷ []) (cond (ltb m 702) (letter ((m - 26) / 26) ∷ letter ((m - 26) % 26) ∷ []) (letter ((m - 702) / 676) ∷ letter ((m - 702) / 26 % 26) ∷ letter ((m - 702) % 26) ∷ []))) (below m 26 h)))
      (one-letter m m h refl)
  | inr h ↦ elim (cases_lt m 702) [
    | inl k ↦ subst (λ text. AreLetters text (m + 1)) (sym (ap₂ (λ a b. cond a (letter m ∷ []) (cond b (letter ((m - 26) / 26) ∷ letter ((m - 26) % 26) ∷ []) (letter ((m - 702) / 676) ∷ letter ((m - 702) / 26 % 26) ∷ letter ((m - 702) % 26) ∷ []))) (not-below m 26 h) (below m 702 k)))
        (two-letters ((m - 26) / 26) ((m - 26) % 26) m (omega arith) (omega arith) (omega arith))
    | inr k ↦ subst (λ text. AreLetters text (m + 1)) (sym (ap₂ (λ a b. cond a (letter m ∷ []) (cond b (letter ((m - 26) / 26) ∷ letter ((m - 26) % 26) ∷ []) (letter ((m - 702) / 676) ∷ letter ((m - 702) / 26 % 26) ∷ letter ((m - 702) % 26) ∷ []))) (not-below m 26 h) (not-below m 702 k)))
        (three-letters ((m - 702) / 676) ((m - 702) / 26 % 26) ((m - 702) % 26) m (omega arith) (omega arith) (omega arith) (omega arith))
  ]
]

pub letters-are : (n : ℕ) → 1 ≤ n → n ≤ 16384 → AreLetters (letters_after (n - 1)) n
letters-are n some small = subst (λ k. AreLetters (letters_after (n - 1)) k) (let e : n - 1 + 1 ≡ n = omega (arith, some) in e) (after-letters (n - 1) (omega (arith, some, small)))

pub column-back : (n : ℕ) (text : List ℕ) → n ≤ 16384 → AreLetters text n → column_of text ≡ Some n
column-back n text small are =
    let fits : leb (column_number text) 16384 ≡ true = ap (λ k. leb k 16384) are.say ∙ (let t : leb n 16384 ≡ true = grind (arith, nat_tests) in t) in
    ap₂ (λ p q. cond (p && q) (Some (column_number text)) None) are.few fits ∙ ap Some are.say

own : IsNumeralModel (λ ds. list_all is_ascii_digit ds ≡ true) (digits_value 10)
own = numerals_by_value _ (search rules)

pub record AreDigits (text : List ℕ) (number : ℕ) : Type 0 where
  pub some : 1 ≤ length text
  pub few : length text ≤ 7
  pub all : list_all is_ascii_digit text ≡ true
  pub first : 48 < get_or text 0 0
  pub say : digits_value 10 text ≡ number

pub digits-are : (n : ℕ) → 1 ≤ n → n ≤ 1048576 → AreDigits (decimal n) n
digits-are n some small =
    let fits : n < 2 ^ 64 = omega (arith, small) in
    record {
      some = decimal_nonempty n fits;
      few = length-decimal-le 7 n (omega arith) (omega (arith, small)) fits;
      all = digits_decimal own n fits;
      first = first_decimal n some fits;
      say = digits_value-decimal own n fits;
    }

three-true : (a b c : Bool) → a ≡ true → b ≡ true → c ≡ true → ((a && b) && c) ≡ true
three-true a b c e f g = ap₂ (λ p q. p && q) (ap₂ (λ p q. p && q) e f) g

pub are-digits : (n : ℕ) (text : List ℕ) → AreDigits text n → are_digits text ≡ true
are-digits n text are = three-true (leb 1 (length text)) (leb (length text) 7) (list_all is_ascii_digit text) (let t : leb 1 (length text) ≡ true = grind (arith, nat_tests, are.some) in t) (let t : leb (length text) 7 ≡ true = grind (arith, nat_tests, are.few) in t) are.all

pub digits-back : (n : ℕ) (text : List ℕ) → AreDigits text n → few_digits text ≡ Some n
digits-back n text are = ap (λ b. cond b (Some (digits_value 10 text)) None) (are-digits n text are) ∙ ap Some are.say

pub row-back : (n : ℕ) (text : List ℕ) → n ≤ 1048576 → AreDigits text n → row_of text ≡ Some n
row-back n text small are =
    let other : not (eqb (get_or text 0 0) 48) ≡ true = grind (arith, nat_tests, are.first) in
    let fits : leb (digits_value 10 text) 1048576 ≡ true = ap (λ k. leb k 1048576) are.say ∙ (let t : leb n 1048576 ≡ true = grind (arith, nat_tests) in t) in
    ap (λ b. cond b (Some (digits_value 10 text)) None) (three-true (not (eqb (get_or text 0 0) 48)) (are_digits text) (leb (digits_value 10 text) 1048576) other (are-digits n text are) fits) ∙ ap Some are.say
