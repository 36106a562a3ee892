-- Texts without `!` and `:`.
--   is_clean      neither of the two
--   all-more      what passes one test passes a weaker one
--   body-start    such a text has no prefix
--   no-colon      and no second half
--   prefix-all    how many bytes pass before one that doesn't
use Rattle.std.proofs.Common.{◌≡◌, ℕ, suc, ◌+◌, ◌-◌, eqb, Bool, true, false, ◌&&◌, not, cond, List, [], ◌∷◌, ◌++◌, length, get_or, refl, sym, ap, ap₂, ◌∙◌, arith}
use Rattle.std.specs.List.{list_all, position_or_len, prefix_len, suffix_len}
use Rattle.std.proofs.lemmas.Bool.{false≢true}
use Rattle.std.proofs.lemmas.Bool.Decides.{nat_tests}
use Rattle.std.proofs.lemmas.List.Sums.{AllPass-from_list_all, position_or_len_is, suffix_len_is}
use Rattle.reader_core.specs.Sheet.{body_start, is_no_mark}
use Rattle.reader_core.specs.Spot.{has_colon, is_colon}

abbrev pub is_clean : ℕ → Bool
is_clean c = not (eqb c 33) && not (eqb c 58)

both : (a b : Bool) → (a && b) ≡ true → (a ≡ true) × (b ≡ true)
both true b h = (refl, h)
both false b h = absurd (false≢true h)

pub all-more : (p q : ℕ → Bool) → ((c : ℕ) → p c ≡ true → q c ≡ true) → (xs : List ℕ) → list_all p xs ≡ true → list_all q xs ≡ true
all-more p q f [] h = refl
all-more p q f (x ∷ xs) h = let parts = both (p x) (list_all p xs) h in ap₂ (λ a b. a && b) (f x parts.0) (all-more p q f xs parts.1)

not-true : (a : Bool) → not a ≡ true → a ≡ false
not-true true h = sym h
not-true false h = refl

pub body-start : (text : List ℕ) → list_all is_clean text ≡ true → body_start text ≡ 0
body-start text h =
    let pass = AllPass-from_list_all is_clean text h in
    let e : suffix_len is_no_mark text ≡ length text - 0 = suffix_len_is is_no_mark text 0 0 (omega arith) (λ k _ inside. (both (is_no_mark (get_or text k 0)) (not (eqb (get_or text k 0) 58)) (pass k 0 inside)).0) (λ n. absurd (omega (arith, n))) in
    omega (arith, e)

pub no-colon : (text : List ℕ) → list_all is_clean text ≡ true → has_colon text ≡ false
no-colon text h =
    let pass = AllPass-from_list_all is_clean text h in
    let e : position_or_len is_colon text ≡ length text = position_or_len_is is_colon text (length text) 0 (omega arith) (λ k inside. not-true (eqb (get_or text k 0) 58) (both (not (eqb (get_or text k 0) 33)) (not (eqb (get_or text k 0) 58)) (pass k 0 inside)).1) (λ n. absurd (omega (arith, n))) in
    grind (arith, nat_tests, e)

pub prefix-all : (p : ℕ → Bool) (xs ys : List ℕ) (c : ℕ) → list_all p xs ≡ true → p c ≡ false → prefix_len p (xs ++ c ∷ ys) ≡ length xs
prefix-all p [] ys c h e = ap (λ b. cond b (1 + prefix_len p ys) 0) e
prefix-all p (x ∷ xs) ys c h e =
    let parts = both (p x) (list_all p xs) h in
    ap₂ (λ b n. cond b (1 + n) 0) parts.0 (prefix-all p xs ys c parts.1 e) ∙ (let f : 1 + length xs ≡ suc (length xs) = omega arith in f)
