-- Names in quotes.
--   doubled-bytes   the characters of a text, each mark twice, have the bytes of the text, each mark twice
--   name-back       a name in quotes is that name
use Rattle.std.proofs.Common.{◌≡◌, ℕ, suc, ◌<◌, ◌≤◌, eqb, Bool, true, false, cond, inl, inr, List, [], ◌∷◌, ◌++◌, length, get_or, map, refl, sym, ap, ap₂, ◌∙◌, arith, chars, encode_utf8, encode_utf8_all, IsUtf8, append-nil}
use Rattle.std.specs.Char.{to_ascii_lowercase}
use Rattle.std.specs.List.{flat_map}
use Rattle.std.specs.Str.{str_eq_ignore_ascii_case}
use Rattle.std.proofs.lemmas.Bool.{cases_lt}
use Rattle.std.proofs.lemmas.Bool.Decides.{nat_tests}
use Rattle.std.proofs.lemmas.List.Concat.{flat_map-append}
use Rattle.std.proofs.lemmas.Slice.Eq.{bytes_eq-Decides}
use Rattle.std.proofs.lemmas.Str.{encode_ascii, encodes-append, encodes-chars, inside_one}
use Rattle.quote_core.specs.Quoted.{doubled, quoted}
use Rattle.reader_core.specs.Sheet.{is_name}

other-mark : (c : ℕ) → 128 ≤ c → doubled 39 c ≡ c ∷ []
other-mark c h = let e : eqb c 39 ≡ false = grind (arith, nat_tests) in ap (λ b. cond b (c ∷ c ∷ []) (c ∷ [])) e

high-stay : (bytes : List ℕ) → ((k : ℕ) → k < length bytes → 128 ≤ get_or bytes k 0) → flat_map (doubled 39) bytes ≡ bytes
high-stay [] h = refl
high-stay (b ∷ bytes) h = ap₂ (λ x y. x ++ y) (other-mark b (h 0 (omega arith))) (high-stay bytes (λ k i. h (suc k) (omega (arith, i))))

all-high : (c : ℕ) → 128 ≤ c → (k : ℕ) → k < length (encode_utf8 c) → 128 ≤ get_or (encode_utf8 c) k 0
all-high c h k inside = elim (cases_lt (get_or (encode_utf8 c) k 0) 128) [
  | inl low ↦ absurd (omega (arith, h, low, inside_one c [] (encode_utf8 c) k (sym (append-nil (encode_utf8 c))) inside low))
  | inr high ↦ high
]

low-one : (c : ℕ) (mark : Bool) → c < 128 → encode_utf8_all (cond mark (c ∷ c ∷ []) (c ∷ [])) ≡ cond mark (c ∷ c ∷ []) (c ∷ [])
low-one c true h = ap₂ (λ x y. x ++ (y ++ [])) (encode_ascii c h) (encode_ascii c h)
low-one c false h = ap (λ x. x ++ []) (encode_ascii c h)

one : (c : ℕ) → encode_utf8_all (doubled 39 c) ≡ flat_map (doubled 39) (encode_utf8 c)
one c = elim (cases_lt c 128) [
  | inl h ↦ low-one c (eqb c 39) h ∙ sym (append-nil (doubled 39 c)) ∙ ap (flat_map (doubled 39)) (sym (encode_ascii c h))
  | inr h ↦ ap encode_utf8_all (other-mark c h) ∙ append-nil (encode_utf8 c) ∙ sym (high-stay (encode_utf8 c) (all-high c h))
]

doubled-bytes : (cs : List ℕ) → encode_utf8_all (flat_map (doubled 39) cs) ≡ flat_map (doubled 39) (encode_utf8_all cs)
doubled-bytes [] = refl
doubled-bytes (c ∷ cs) =
    encodes-append (doubled 39 c) (flat_map (doubled 39) cs)
    ∙ ap₂ (λ x y. x ++ y) (one c) (doubled-bytes cs)
    ∙ sym (flat_map-append (doubled 39) (encode_utf8 c) (encode_utf8_all cs))

pub name-back : (name : List ℕ) → IsUtf8 name → is_name (quoted 39 name) name ≡ true
name-back name utf8 =
    let bytes : encode_utf8_all (flat_map (doubled 39) (chars name)) ≡ flat_map (doubled 39) name = doubled-bytes (chars name) ∙ ap (flat_map (doubled 39)) (encodes-chars name utf8) in
    let end : List ℕ = flat_map (doubled 39) name ++ 39 ∷ [] in
    ap (λ front. str_eq_ignore_ascii_case (front ++ 39 ∷ []) end) bytes
    ∙ (bytes_eq-Decides (map to_ascii_lowercase end) (map to_ascii_lowercase end)).1 refl
