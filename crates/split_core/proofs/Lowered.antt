-- A text in lower case is a text.
--   high-low   a byte past ASCII has no other case
--   lowered    the law
use Rattle.std.proofs.Common.{◌≡◌, ℕ, suc, ◌<◌, ◌≤◌, Bool, true, false, ◌&&◌, inl, inr, List, [], ◌∷◌, ◌++◌, length, get_or, map, refl, sym, ap, ap₂, ◌∙◌, IsUtf8, encode_utf8, encode_utf8_all, arith, append-nil}
use Rattle.std.specs.Char.{to_ascii_lowercase}
use Rattle.std.specs.Str.{all_scalars}
use Rattle.std.proofs.lemmas.Bool.{cases_lt, false≢true}
use Rattle.std.proofs.lemmas.Bool.Decides.{nat_tests}
use Rattle.std.proofs.lemmas.List.{map-append}
use Rattle.std.proofs.lemmas.Str.{encode_ascii, inside_one}
use Rattle.std.proofs.lemmas.Str.Ascii.{lowercase_ascii}
use lib.Utf8.{scalar, low_scalar}

pub high-low : (a : ℕ) → 128 ≤ a → to_ascii_lowercase a ≡ a
high-low a h = grind (arith, nat_tests)

map-stays : (bytes : List ℕ) → ((k : ℕ) → k < length bytes → 128 ≤ get_or bytes k 0) → map to_ascii_lowercase bytes ≡ bytes
map-stays [] high = refl
map-stays (b ∷ bytes) high = ap₂ (λ c cs. c ∷ cs) (high-low b (high 0 (omega arith))) (map-stays bytes (λ k h. high (suc k) (omega (arith, h))))

all-high : (c : ℕ) → 128 ≤ c → (k : ℕ) → k < length (encode_utf8 c) → 128 ≤ get_or (encode_utf8 c) k 0
all-high c h k inside = elim (cases_lt (get_or (encode_utf8 c) k 0) 128) [
  | inl low ↦ absurd (omega (arith, h, low, inside_one c [] (encode_utf8 c) k (sym (append-nil (encode_utf8 c))) inside low))
  | inr high ↦ high
]

lowered-one : (c : ℕ) → map to_ascii_lowercase (encode_utf8 c) ≡ encode_utf8 (to_ascii_lowercase c)
lowered-one c = elim (cases_lt c 128) [
  | inl low ↦ ap (map to_ascii_lowercase) (encode_ascii c low) ∙ sym (encode_ascii (to_ascii_lowercase c) (lowercase_ascii c low))
  | inr high ↦ map-stays (encode_utf8 c) (all-high c high) ∙ ap encode_utf8 (sym (high-low c high))
]

scalar-one : (c : ℕ) → scalar c ≡ true → scalar (to_ascii_lowercase c) ≡ true
scalar-one c h = elim (cases_lt c 128) [
  | inl low ↦ let small : to_ascii_lowercase c < 128 = lowercase_ascii c low in low_scalar (to_ascii_lowercase c) (omega (arith, small))
  | inr high ↦ ap scalar (high-low c high) ∙ h
]

both : (a b : Bool) → (a && b) ≡ true → (a ≡ true) × (b ≡ true)
both true b h = (refl, h)
both false b h = absurd (false≢true h)

lowered-all : (cs : List ℕ) → all_scalars cs ≡ true → (all_scalars (map to_ascii_lowercase cs) ≡ true) × (encode_utf8_all (map to_ascii_lowercase cs) ≡ map to_ascii_lowercase (encode_utf8_all cs))
lowered-all [] h = (refl, refl)
lowered-all (c ∷ cs) h =
    let parts = both (scalar c) (all_scalars cs) h in
    let rest = lowered-all cs parts.1 in (
      ap₂ (λ a b. a && b) (scalar-one c parts.0) rest.0,
      ap₂ (λ x y. x ++ y) (sym (lowered-one c)) rest.1 ∙ sym (map-append to_ascii_lowercase (encode_utf8 c) (encode_utf8_all cs)),
    )

pub lowered : (bytes : List ℕ) → IsUtf8 bytes → IsUtf8 (map to_ascii_lowercase bytes)
lowered bytes utf8 = let all = lowered-all utf8.0 utf8.1.0 in (map to_ascii_lowercase utf8.0, (all.0, all.1 ∙ ap (map to_ascii_lowercase) utf8.1.1))
