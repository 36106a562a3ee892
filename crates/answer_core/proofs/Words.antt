-- Words as a list of texts, and words that are numbers.
--   map-one, map-two, map-three   one word, two, three
--   several            more than three
--   within, beyond     what is read as a number of 32 bits, and what isn't
use Rattle.std.proofs.Common.{◌≡◌, ℕ, suc, ◌<◌, ◌≤◌, ◌^◌, ◌≢◌, Bool, true, false, ◌&&◌, not, nat_eq, nat_le, List, [], ◌∷◌, length, get_or, map, cond, inl, inr, refl, ap, ap₂, subst, sym, ◌∙◌, arith, String, Global}
use Rattle.std.specs.Prelude.{None, Some, Option, Result, Ok, Err, ◌==◌, ◌||◌}
use Rattle.std.specs.Char.{is_ascii_digit}
use Rattle.std.specs.List.{list_all}
use Rattle.std.specs.Result.{OkIff}
use Rattle.std.specs.Str.Parse.{ParsesUnsigned, digits_value}
use Rattle.std.proofs.lemmas.Bool.{cases_lt}
use Rattle.std.proofs.lemmas.Bool.Decides.{nat_tests}
use Rattle.std.proofs.lemmas.Str.Parse.{parse_plain}
use Rattle.number_core.specs.NumberText.{is_digits}
use Rattle.number_core.proofs.Fits.{digits-all, digits-some, own}
use Rattle.answer_core.specs.Command.{at_most, begins_in_vain, command_in, number_in}

pub map-one : {A B : Type 0} (f : A → B) (xs : List A) (x : A) → 1 ≤ length xs → length xs < 2 → x ≡ get_or xs 0 x → map f xs ≡ f x ∷ []
map-one f [] x some few e = absurd (omega arith)
map-one f (y ∷ []) x some few e = ap (λ z. f z ∷ []) (sym e)
map-one f (y ∷ z ∷ zs) x some few e = absurd (omega arith)

pub map-two : {A B : Type 0} (f : A → B) (xs : List A) (x y : A) → 2 ≤ length xs → length xs < 3 → x ≡ get_or xs 0 x → y ≡ get_or xs 1 y → map f xs ≡ f x ∷ f y ∷ []
map-two f [] x y some few e g = absurd (omega arith)
map-two f (z ∷ []) x y some few e g = absurd (omega arith)
map-two f (z ∷ w ∷ []) x y some few e g = ap₂ (λ a b. f a ∷ f b ∷ []) (sym e) (sym g)
map-two f (z ∷ w ∷ v ∷ zs) x y some few e g = absurd (omega arith)

pub map-three : {A B : Type 0} (f : A → B) (xs : List A) (x y z : A) → 3 ≤ length xs → length xs < 4 → x ≡ get_or xs 0 x → y ≡ get_or xs 1 y → z ≡ get_or xs 2 z
    → map f xs ≡ f x ∷ f y ∷ f z ∷ []
map-three f [] x y z some few d e g = absurd (omega arith)
map-three f (a ∷ []) x y z some few d e g = absurd (omega arith)
map-three f (a ∷ b ∷ []) x y z some few d e g = absurd (omega arith)
map-three f (a ∷ b ∷ c ∷ []) x y z some few d e g = ap₂ (λ p q. f p ∷ q) (sym d) (ap₂ (λ p q. f p ∷ f q ∷ []) (sym e) (sym g))
map-three f (a ∷ b ∷ c ∷ o ∷ xs) x y z some few d e g = absurd (omega arith)

pub several : (words : List (String Global)) → 4 ≤ length words → command_in words ≡ None
several [] many = absurd (omega (arith, many))
several (word ∷ []) many = absurd (omega (arith, many))
several (word ∷ next ∷ []) many = absurd (omega (arith, many))
several (word ∷ next ∷ third ∷ []) many = absurd (omega (arith, many))
several (word ∷ next ∷ third ∷ other ∷ words) many = refl

plain-one : (first : ℕ) → (first == 43) ≡ false → first ≢ 43
plain-one first h = grind (arith, nat_tests)

plain-more : (first : ℕ) → (first == 43 || first == 48) ≡ false → first ≢ 43
plain-more first h = grind (arith, nat_tests)

plain : (word : List ℕ) → begins_in_vain word ≡ false → get_or word 0 0 ≢ 43
plain [] h = omega arith
plain (first ∷ []) h = plain-one first h
plain (first ∷ next ∷ others) h = plain-more first h

some-digit : (n : ℕ) → not (nat_eq (suc n) 0) ≡ true
some-digit n = grind (arith, nat_tests)

are-digits : (word : List ℕ) → list_all is_ascii_digit word ≡ true → 0 < length word → is_digits word ≡ true
are-digits [] all some = absurd (omega (arith, some))
are-digits (first ∷ others) all some = ap (λ b. b && list_all is_ascii_digit (first ∷ others)) (some-digit (length others)) ∙ all

beyond-most : (most number : ℕ) → most < number → None ≡ at_most most number
beyond-most most number h = grind (arith, nat_tests)

read-as : (most : ℕ) (word : List ℕ) (vain digits : Bool) → begins_in_vain word ≡ vain → is_digits word ≡ digits
    → number_in most word ≡ cond (not vain && digits) (at_most most (digits_value 10 word)) None
read-as most word vain digits v d = ap₂ (λ a b. cond (not a && b) (at_most most (digits_value 10 word)) None) v d

pub within : {E : Type 0} (most number : ℕ) (word : List ℕ) (read : Result ℕ E) → read ≡ Ok number → begins_in_vain word ≡ false → ParsesUnsigned 32 10 word read → at_most most number ≡ number_in most word
within {E} most number word read is h parses =
    let said = subst (λ (r : Result ℕ E). OkIff r ((list_all is_ascii_digit word ≡ true) × (0 < length word) × (digits_value 10 word < 2 ^ 32)) (digits_value 10 word)) is (parse_plain own 32 word read parses (plain word h)) in
    ap (at_most most) said.1 ∙ sym (read-as most word false true h (are-digits word said.0.0 said.0.1))

pub beyond : {E : Type 0} (most : ℕ) (word : List ℕ) (e : E) → most < 2 ^ 32 → begins_in_vain word ≡ false → ParsesUnsigned 32 10 word (Err e) → None ≡ number_in most word
beyond {E} most word e few h parses =
    let unread = parse_plain own 32 word (Err e) parses (plain word h) in
    elim (is_digits word) as (λ d. is_digits word ≡ d → None ≡ number_in most word) [
      | false ↦ λ d. sym (read-as most word false false h d)
      | true ↦ λ d. elim (cases_lt (digits_value 10 word) (2 ^ 32)) [
        | inl small ↦ absurd (unread (digits-all word d, digits-some word d, small))
        | inr large ↦ beyond-most most (digits_value 10 word) (omega (arith, few, large)) ∙ sym (read-as most word false true h d)
      ]
    ] refl
