-- The table of bytes where a delimiter may match.
--   mark-one     what no longer is false after both cases of a byte are marked
--   firsts-more  a table with the first byte of one delimiter more
--   firsts-none  where the table says no, nothing matches
use Rattle.std.proofs.Common.{◌≡◌, ◌≢◌, ℕ, ◌+◌, ◌<◌, ◌≤◌, Bool, true, false, cond, List, [], ◌∷◌, ◌++◌, length, get_or, set, drop, Option, Some, None, sym, ap, ◌∙◌, arith}
use Rattle.std.specs.Char.{eq_ignore_ascii_case, to_ascii_lowercase, to_ascii_uppercase}
use Rattle.std.proofs.lemmas.Bool.{false≢true}
use Rattle.std.proofs.lemmas.Bool.Decides.{nat_tests}
use Rattle.std.proofs.lemmas.List.{at_drop_more, get_or-set_same, get_or-set_other, length-set}
use Rattle.split_core.proofs.Boundaries.{firsts-apart}
use Rattle.split_core.specs.Pieces.{HasFirsts, begins, matched}

-- where a place is false after another was marked, it was false, and is another
unmarked : (xs : List Bool) (i j : ℕ) → i < length xs → get_or (set xs i true) j false ≡ false → (j ≢ i) × (get_or xs j false ≡ false)
unmarked xs i j h e =
    let other : j ≢ i = λ same. false≢true (sym e ∙ ap (λ k. get_or (set xs i true) k false) same ∙ get_or-set_same xs i true false h) in
    (other, sym (get_or-set_other xs i j true false other) ∙ e)

low-case : (first : ℕ) → first < 256 → to_ascii_lowercase first < 256
low-case first h = grind (arith, nat_tests)

high-case : (first : ℕ) → first < 256 → to_ascii_uppercase first < 256
high-case first h = grind (arith, nat_tests)

either-case : (byte first : ℕ) → (byte ≢ to_ascii_lowercase first) → (byte ≢ to_ascii_uppercase first) → eq_ignore_ascii_case byte first ≡ false
either-case byte first h k = grind (arith, nat_tests)

pub mark-one : (old : List Bool) (first byte : ℕ) → length old ≡ 256 → first < 256 → get_or (set (set old (to_ascii_lowercase first) true) (to_ascii_uppercase first) true) byte false ≡ false
    → (get_or old byte false ≡ false) × (eq_ignore_ascii_case byte first ≡ false)
mark-one old first byte full within e =
    let low : List Bool = set old (to_ascii_lowercase first) true in
    let outer = unmarked low (to_ascii_uppercase first) byte (omega (arith, high-case first within, full, length-set old (to_ascii_lowercase first) true)) e in
    let inner = unmarked old (to_ascii_lowercase first) byte (omega (arith, low-case first within, full)) outer.1 in
    (inner.1, either-case byte first inner.0 outer.0)

none-one : (one : Bool) (n : ℕ) (found more : Option ℕ) → (found ≡ None → more ≡ None) → cond one (Some n) found ≡ None → cond one (Some n) more ≡ None
none-one true n found more next h = h
none-one false n found more next h = next h

none-more : (blind : Bool) (ds : List (List ℕ)) (d text : List ℕ) → begins blind text d ≡ false → matched blind ds text ≡ None → matched blind (ds ++ d ∷ []) text ≡ None
none-more blind [] d text e h = ap (λ answer. cond answer (Some (length d)) None) e
none-more blind (first ∷ ds) d text e h = none-one (begins blind text first) (length first) _ _ (none-more blind ds d text e) h

pub firsts-more : (ds : List (List ℕ)) (d : List ℕ) (old new : List Bool) → 1 ≤ length d
    → ((byte : ℕ) → byte < 256 → get_or new byte false ≡ false → (get_or old byte false ≡ false) × (eq_ignore_ascii_case byte (get_or d 0 0) ≡ false))
    → HasFirsts ds old → HasFirsts (ds ++ d ∷ []) new
firsts-more ds d old new some marked has = λ blind byte text within e.
    let parts = marked byte within e in
    none-more blind ds d (byte ∷ text) (firsts-apart blind byte text d some parts.1) (has blind byte text within parts.0)

pub firsts-none : (ds : List (List ℕ)) (firsts : List Bool) (blind : Bool) (xs : List ℕ) (place : ℕ) → HasFirsts ds firsts → place < length xs → get_or xs place 0 < 256
    → get_or firsts (get_or xs place 0) false ≡ false → matched blind ds (drop place xs) ≡ None
firsts-none ds firsts blind xs place has h within e =
    at_drop_more (matched blind ds) xs place 0 h ∙ has blind (get_or xs place 0) (drop (place + 1) xs) within e
