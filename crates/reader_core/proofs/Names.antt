-- Names in quotes, letter by letter.
--   past-some   what is left behind a letter
--   past-none   no such letter
--   last-quote  the quote at the end
use Rattle.std.proofs.Common.{◌≡◌, ℕ, ◌+◌, ◌<◌, ◌≤◌, Bool, true, false, ◌&&◌, cond, eqb, List, [], ◌∷◌, ◌++◌, length, get_or, drop, Option, Some, None, option_and_then, refl, sym, ap, ◌∙◌, append_assoc, arith}
use Rattle.std.specs.Char.{eq_ignore_ascii_case}
use Rattle.std.specs.List.{flat_map}
use Rattle.std.specs.Str.{str_eq_ignore_ascii_case}
use Rattle.std.proofs.lemmas.Bool.Decides.{nat_tests}
use Rattle.std.proofs.lemmas.List.{at_drop_more, at_drop_all}
use Rattle.quote_core.specs.Quoted.{doubled}
use Rattle.reader_core.specs.Sheet.{past_byte, past_letter}

-- whether a text is some bytes and an end, by what is left of it behind the bytes
abbrev left_is : Option (List ℕ) → List ℕ → Bool
left_is (Some rest) end = str_eq_ignore_ascii_case rest end
left_is None end = false

by-byte : (c : ℕ) (text end : List ℕ) → str_eq_ignore_ascii_case text (c ∷ end) ≡ left_is (past_byte c text) end
by-byte c [] end = refl
by-byte c (b ∷ text) end = elim (eq_ignore_ascii_case b c) as (λ same. (same && str_eq_ignore_ascii_case text end) ≡ left_is (cond same (Some text) None) end) [ true ↦ refl | false ↦ refl ]

by-two : (c : ℕ) (left : Option (List ℕ)) (end : List ℕ) → left_is left (c ∷ end) ≡ left_is (option_and_then (past_byte c) left) end
by-two c None end = refl
by-two c (Some rest) end = by-byte c rest end

by-rest : (left : Option (List ℕ)) (end : List ℕ) → left_is left end ≡ left_is (option_and_then (λ rest. Some rest) left) end
by-rest None end = refl
by-rest (Some rest) end = refl

by-letter : (c : ℕ) (text end : List ℕ) → str_eq_ignore_ascii_case text (doubled 39 c ++ end) ≡ left_is (past_letter c text) end
by-letter c text end =
    elim (eqb c 39) as (λ mark. str_eq_ignore_ascii_case text (cond mark (c ∷ c ∷ []) (c ∷ []) ++ end) ≡ left_is (option_and_then (λ rest. cond mark (past_byte c rest) (Some rest)) (past_byte c text)) end) [
      | true ↦ by-byte c text (c ∷ end) ∙ by-two c (past_byte c text) end
      | false ↦ by-byte c text end ∙ by-rest (past_byte c text) end
    ]

step : (text name : List ℕ) (i : ℕ) (o : Option (List ℕ)) → i < length name → past_letter (get_or name i 0) text ≡ o
    → str_eq_ignore_ascii_case text (flat_map (doubled 39) (drop i name) ++ 39 ∷ []) ≡ left_is o (flat_map (doubled 39) (drop (i + 1) name) ++ 39 ∷ [])
step text name i o h e =
    let end : List ℕ = flat_map (doubled 39) (drop (i + 1) name) in
    at_drop_more (λ rest. str_eq_ignore_ascii_case text (flat_map (doubled 39) rest ++ 39 ∷ [])) name i 0 h
    ∙ ap (str_eq_ignore_ascii_case text) (append_assoc (doubled 39 (get_or name i 0)) end (39 ∷ []))
    ∙ by-letter (get_or name i 0) text (end ++ 39 ∷ [])
    ∙ ap (λ left. left_is left (end ++ 39 ∷ [])) e

pub past-some : (text name rest : List ℕ) (i : ℕ) (answer : Bool) → i < length name → Some rest ≡ past_letter (get_or name i 0) text
    → str_eq_ignore_ascii_case text (flat_map (doubled 39) (drop i name) ++ 39 ∷ []) ≡ answer → str_eq_ignore_ascii_case rest (flat_map (doubled 39) (drop (i + 1) name) ++ 39 ∷ []) ≡ answer
past-some text name rest i answer h e before = sym (step text name i (Some rest) h (sym e)) ∙ before

pub past-none : (text name : List ℕ) (i : ℕ) (answer : Bool) → i < length name → None ≡ past_letter (get_or name i 0) text
    → str_eq_ignore_ascii_case text (flat_map (doubled 39) (drop i name) ++ 39 ∷ []) ≡ answer → false ≡ answer
past-none text name i answer h e before = sym (step text name i None h (sym e)) ∙ before

one-quote : (text : List ℕ) → str_eq_ignore_ascii_case text (39 ∷ []) ≡ (eqb (length text) 1 && eqb (get_or text 0 0) 39)
one-quote [] = refl
one-quote (b ∷ []) = grind (arith, nat_tests)
one-quote (b ∷ c ∷ text) = grind (arith, nat_tests)

pub last-quote : (text name : List ℕ) (i : ℕ) (answer : Bool) → length name ≤ i → str_eq_ignore_ascii_case text (flat_map (doubled 39) (drop i name) ++ 39 ∷ []) ≡ answer → (eqb (length text) 1 && eqb (get_or text 0 0) 39) ≡ answer
last-quote text name i answer h before = sym (one-quote text) ∙ sym (at_drop_all (λ rest. str_eq_ignore_ascii_case text (flat_map (doubled 39) rest ++ 39 ∷ [])) name i h) ∙ before
