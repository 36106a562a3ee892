-- What the JSON reader says of bytes, as `data_of` says it.
use Rattle.std.proofs.Common.{◌≡◌, ℕ, ◌==◌, List, [], ◌∷◌, Bool, true, false, ◌||◌, if◌then◌else◌, Option, Some, None, option_and_then, inl, inr, refl, ap, ◌∙◌, eqb-true}
use Rattle.std.proofs.lemmas.Bool.{or_cases, and_parts}
use Rattle.std.specs.List.{list_all}
use Rattle.json.specs.Lex.{class, space, lex, lex_byte, between, punctuate, fresh}
use Rattle.json.specs.Json.{value, if_last}
use Rattle.std.specs.Str.{IsUtf8, is_utf8}
use Rattle.std.proofs.lemmas.Str.{IsUtf8-from_is_utf8, is_utf8-from_IsUtf8}
use Rattle.serde_json.specs.Data.{Data}
use Rattle.serde_json.specs.Read.{read, of_json, max_depth}
use Rattle.request_core.specs.Text.{data_of, is_blank}

-- text that reads as a value is that value
pub data_of-text : (bytes : List ℕ) (datum : Data) → IsUtf8 bytes → read bytes ≡ Some datum → data_of bytes ≡ Some datum
unfolding data_of
data_of-text bytes datum text reads = rw (is_utf8-from_IsUtf8 bytes text) reads

-- nothing is found where a test fails, and nothing where it passes
tested : (test : Bool) (found : Option Data) → (test ≡ true → found ≡ None) → (if test then found else None) ≡ None
tested true found refused = refused refl
tested false found refused = refl

-- bytes that are no text, or a text that reads as nothing, are no value
pub data_of-none : (bytes : List ℕ) → (IsUtf8 bytes → read bytes ≡ None) → data_of bytes ≡ None
unfolding data_of
data_of-none bytes refused = tested (is_utf8 bytes) (read bytes) (λ passes. refused (IsUtf8-from_is_utf8 bytes passes))

-- blanks have no words
class-blank : (byte : ℕ) → is_blank byte ≡ true → class byte ≡ space
class-blank byte e = elim (or_cases ((byte == 32) || (byte == 9) || (byte == 10)) (byte == 13) e) [
  | inr one ↦ ap class (eqb-true byte 13 one)
  | inl rest ↦ elim (or_cases ((byte == 32) || (byte == 9)) (byte == 10) rest) [
    | inr one ↦ ap class (eqb-true byte 10 one)
    | inl rest ↦ elim (or_cases (byte == 32) (byte == 9) rest) [
      | inl one ↦ ap class (eqb-true byte 32 one)
      | inr one ↦ ap class (eqb-true byte 9 one)
    ]
  ]
]

lex-blanks : (bytes : List ℕ) → list_all is_blank bytes ≡ true → lex between bytes ≡ []
unfolding lex
lex-blanks [] e = refl
lex-blanks (byte ∷ bytes) e =
    let parts = and_parts (is_blank byte) (list_all is_blank bytes) e in
    ap (λ c. lex_byte between c byte bytes (λ next. lex next bytes)) (class-blank byte parts.0) ∙ lex-blanks bytes parts.1

read-blanks : (bytes : List ℕ) → list_all is_blank bytes ≡ true → read bytes ≡ None
unfolding value punctuate
read-blanks bytes e = ap (λ ls. option_and_then of_json (option_and_then (λ p. if_last p.0 p.1) (value max_depth (punctuate fresh ls)))) (lex-blanks bytes e)

-- bytes that are blanks alone are no value
pub data_of-blanks : (bytes : List ℕ) → list_all is_blank bytes ≡ true → data_of bytes ≡ None
data_of-blanks bytes e = data_of-none bytes (λ text. read-blanks bytes e)
