-- Delimiters match whole characters.
--   low-same      bytes that are alike are equal in lower case
--   firsts-apart  where the first bytes are not alike, a delimiter does not match
--   match-whole   where a delimiter matches, characters begin before and behind it
--   none-empty-at a delimiter of a list without empty ones
use Rattle.std.proofs.Common.{◌≡◌, ℕ, ◌+◌, ◌<◌, ◌≤◌, Bool, true, false, ◌&&◌, nat_le, List, [], ◌∷◌, length, get_or, map, take, drop, refl, sym, ap, subst, ◌∙◌, IsUtf8, IsCharBoundary, arith}
use Rattle.std.specs.Char.{eq_ignore_ascii_case, to_ascii_lowercase}
use Rattle.std.proofs.lemmas.Bool.{false≢true}
use Rattle.std.proofs.lemmas.Bool.Decides.{nat_tests}
use Rattle.std.proofs.lemmas.List.{get_or-drop, get_or-map, get_or-take, length-map, take-map}
use Rattle.std.proofs.lemmas.List.Folds.{list_all_at}
use Rattle.std.proofs.lemmas.Slice.Eq.{bytes_eq-Decides}
use Rattle.std.proofs.lemmas.Str.{IsCharBoundary-from_rest, IsCharBoundary-from_take, IsCharBoundary-start, IsUtf8-drop}
use Rattle.split_core.proofs.Lowered.{high-low, lowered}
use Rattle.split_core.specs.Pieces.{IsMatch, begins, none_empty, same_bytes}

both : (a b : Bool) → (a && b) ≡ true → (a ≡ true) × (b ≡ true)
both true b h = (refl, h)
both false b h = absurd (false≢true h)

low-same : (blind : Bool) (a b : List ℕ) → same_bytes blind a b ≡ true → map to_ascii_lowercase a ≡ map to_ascii_lowercase b
low-same true a b h = (bytes_eq-Decides (map to_ascii_lowercase a) (map to_ascii_lowercase b)).0 h
low-same false a b h = ap (map to_ascii_lowercase) ((bytes_eq-Decides a b).0 h)

-- a byte past ASCII has no other case
high-same : (a b : ℕ) → to_ascii_lowercase a ≡ to_ascii_lowercase b → 128 ≤ a → a ≡ b
high-same a b e h = grind (arith, nat_tests)

low-at : (bytes : List ℕ) (i : ℕ) → i < length bytes → get_or (map to_ascii_lowercase bytes) i 0 ≡ to_ascii_lowercase (get_or bytes i 0)
low-at bytes i h = get_or-map to_ascii_lowercase bytes i 0 0 h

-- where bytes begin that are alike to a text, a character begins
starts-whole : (rest d : List ℕ) → IsUtf8 d → 1 ≤ length d → length d ≤ length rest → map to_ascii_lowercase (take (length d) rest) ≡ map to_ascii_lowercase d
    → 128 ≤ get_or rest 0 0 → 192 ≤ get_or rest 0 0
starts-whole rest d utf8 some fits same high =
    let front : get_or (take (length d) rest) 0 0 ≡ get_or rest 0 0 = get_or-take (length d) rest 0 0 (omega (arith, some)) in
    let count : length (take (length d) rest) ≡ length d = sym (length-map (take (length d) rest) to_ascii_lowercase) ∙ ap length same ∙ length-map d to_ascii_lowercase in
    let lower : to_ascii_lowercase (get_or rest 0 0) ≡ to_ascii_lowercase (get_or d 0 0) =
    ap to_ascii_lowercase (sym front) ∙ sym (low-at (take (length d) rest) 0 (omega (arith, some, count))) ∙ ap (λ bytes. get_or bytes 0 0) same ∙ low-at d 0 (omega (arith, some)) in
    let one : get_or rest 0 0 ≡ get_or d 0 0 = high-same (get_or rest 0 0) (get_or d 0 0) lower high in
    omega (arith, one, (IsCharBoundary-start d utf8).1 (omega (arith, some)) (omega (arith, one, high)))

-- where they end, one begins, or the text ends
ends-whole : (rest d : List ℕ) → IsUtf8 rest → IsUtf8 d → length d ≤ length rest → map to_ascii_lowercase (take (length d) rest) ≡ map to_ascii_lowercase d → IsCharBoundary rest (length d)
ends-whole rest d whole utf8 fits same =
    let bytes : List ℕ = map to_ascii_lowercase rest in
    let count : length bytes ≡ length rest = length-map rest to_ascii_lowercase in
    let front : IsUtf8 (take (length d) bytes) = subst IsUtf8 (sym (take-map to_ascii_lowercase (length d) rest ∙ same)) (lowered d utf8) in
    let cut : IsCharBoundary bytes (length d) = IsCharBoundary-from_take bytes (length d) (lowered rest whole) (omega (arith, fits, count)) front in (
      fits,
      λ inside high.
          let one : get_or bytes (length d) 0 ≡ get_or rest (length d) 0 = low-at rest (length d) inside ∙ high-low (get_or rest (length d) 0) high in
          omega (arith, one, cut.1 (omega (arith, inside, count)) (omega (arith, one, high))),
    )

first-alike : (byte first : ℕ) → to_ascii_lowercase byte ≡ to_ascii_lowercase first → eq_ignore_ascii_case byte first ≡ true
first-alike byte first h = grind (arith, nat_tests)

alike : (blind : Bool) (byte first : ℕ) (text d : List ℕ) → begins blind (byte ∷ text) (first ∷ d) ≡ true → eq_ignore_ascii_case byte first ≡ true
alike blind byte first text d h =
    let parts = both (nat_le (length (first ∷ d)) (length (byte ∷ text))) (same_bytes blind (take (length (first ∷ d)) (byte ∷ text)) (first ∷ d)) h in
    let same : map to_ascii_lowercase (take (length (first ∷ d)) (byte ∷ text)) ≡ map to_ascii_lowercase (first ∷ d) = low-same blind (take (length (first ∷ d)) (byte ∷ text)) (first ∷ d) parts.1 in
    first-alike byte first (ap (λ bytes. get_or bytes 0 0) same)

apart : (answer : Bool) (blind : Bool) (byte first : ℕ) (text d : List ℕ) → begins blind (byte ∷ text) (first ∷ d) ≡ answer → eq_ignore_ascii_case byte first ≡ false → answer ≡ false
apart true blind byte first text d h e = absurd (false≢true (sym e ∙ alike blind byte first text d h))
apart false blind byte first text d h e = refl

pub firsts-apart : (blind : Bool) (byte : ℕ) (text d : List ℕ) → 1 ≤ length d → eq_ignore_ascii_case byte (get_or d 0 0) ≡ false → begins blind (byte ∷ text) d ≡ false
firsts-apart blind byte text [] some e = absurd (omega (arith, some))
firsts-apart blind byte text (first ∷ d) some e = apart (begins blind (byte ∷ text) (first ∷ d)) blind byte first text d refl e

pub match-whole : (blind : Bool) (text d : List ℕ) (place : ℕ) → IsUtf8 text → IsUtf8 d → place ≤ length text → 1 ≤ length d → begins blind (drop place text) d ≡ true → IsMatch text place (length d)
match-whole blind text d place utf8 delimiter within some h =
    let rest : List ℕ = drop place text in
    let parts = both (nat_le (length d) (length rest)) (same_bytes blind (take (length d) rest) d) h in
    let fits : length d ≤ length rest = grind (arith, nat_tests, parts.0) in
    let same : map to_ascii_lowercase (take (length d) rest) ≡ map to_ascii_lowercase d = low-same blind (take (length d) rest) d parts.1 in
    let here : get_or rest 0 0 ≡ get_or text place 0 = get_or-drop place text 0 0 ∙ ap (λ i. get_or text i 0) (let e : place + 0 ≡ place = omega arith in e) in
    let start : IsCharBoundary text place = (within, λ inside high. omega (arith, here, starts-whole rest d delimiter some fits same (omega (arith, here, high)))) in
    record {
      some = some;
      start = start;
      end = IsCharBoundary-from_rest text place (length d) within (ends-whole rest d (IsUtf8-drop text place utf8 start) delimiter fits same);
    }

true-at : (ds : List (List ℕ)) (i : ℕ) (answer : Bool) → nat_le 1 (length (get_or ds i [])) ≡ answer → i < length ds → none_empty ds ≡ true → answer ≡ true
true-at ds i true e h all = refl
true-at ds i false e h all = absurd (false≢true (sym (list_all_at (λ d. nat_le 1 (length d)) ds i [] h e) ∙ all))

pub none-empty-at : (ds : List (List ℕ)) (i : ℕ) (d : List ℕ) → i < length ds → none_empty ds ≡ true → d ≡ get_or ds i [] → 1 ≤ length d
none-empty-at ds i d h all e = let t = true-at ds i (nat_le 1 (length (get_or ds i []))) refl h all in let k : 1 ≤ length (get_or ds i []) = grind (arith, nat_tests, t) in omega (arith, k, ap length e)
