-- The pieces of a text, with the delimiters between them, are the text.
--   are-cut   the law
use Rattle.std.proofs.Common.{◌≡◌, ℕ, zero, suc, ◌-◌, ◌≤◌, Bool, true, false, ◌&&◌, cond, nat_le, inl, inr, List, [], ◌∷◌, length, take, drop, Option, Some, None, refl, sym, ap, subst, ◌∙◌, arith}
use Rattle.std.proofs.lemmas.Bool.Decides.{nat_tests}
use Rattle.std.proofs.lemmas.Bool.{false≢true}
use Rattle.std.proofs.lemmas.List.{take-append-drop, length-take-le}
use Rattle.split_core.specs.Pieces.{begins, none_empty, matched, in_front, cut_at, pieces_past, pieces, IsFree, AreCut}

both : (a b : Bool) → (a && b) ≡ true → (a ≡ true) × (b ≡ true)
both true b h = (refl, h)
both false b h = absurd (false≢true h)

fits : (blind : Bool) (text d : List ℕ) → begins blind text d ≡ true → length d ≤ length text
fits blind text d h = let t = (both (nat_le (length d) (length text)) _ h).0 in grind (arith, nat_tests, t)

-- a delimiter that matches has some bytes, and lies in the text
abbrev IsWithin : List ℕ → Option ℕ → Type 0
IsWithin text None = Unit {0}
IsWithin text (Some n) = (1 ≤ n) × (n ≤ length text)

within-one : (b : Bool) (d : List ℕ) (ds : List (List ℕ)) (text : List ℕ) (answer : Bool) → begins b text d ≡ answer → nat_le 1 (length d) ≡ true → IsWithin text (matched b ds text) → IsWithin text (cond answer (Some (length d)) (matched b ds text))
within-one b d ds text true e some rest = (grind (arith, nat_tests, some), fits b text d e)
within-one b d ds text false e some rest = rest

within : (b : Bool) (ds : List (List ℕ)) (text : List ℕ) → none_empty ds ≡ true → IsWithin text (matched b ds text)
within b [] text h = tt
within b (d ∷ ds) text h =
    let parts = both (nat_le 1 (length d)) (none_empty ds) h in
    within-one b d ds text (begins b text d) refl parts.0 (within b ds text parts.1)

free-more : (b : Bool) (ds : List (List ℕ)) (c : ℕ) (text : List ℕ) (n : ℕ) → matched b ds (c ∷ text) ≡ None → IsFree b ds text n → IsFree b ds (c ∷ text) (suc n)
free-more b ds c text n e free zero h = e
free-more b ds c text n e free (suc i) h = free i (omega (arith, h))

-- a byte at which nothing matches belongs to the first piece
in-front : (b : Bool) (ds : List (List ℕ)) (c : ℕ) (text : List ℕ) (ps : List (List ℕ)) → matched b ds (c ∷ text) ≡ None → AreCut b ds text ps → AreCut b ds (c ∷ text) (in_front (c ∷ []) ps)
in-front b ds c text [] e cut = cut
in-front b ds c text (p ∷ ps) e (inl last) = inl (last.0, ap (λ t. c ∷ t) last.1, free-more b ds c text (length p) e last.2)
in-front b ds c text (p ∷ ps) e (inr more) = inr (
  more.0,
  more.1,
  record {
    joined = ap (λ t. c ∷ t) more.2.joined;
    first = more.2.first;
    free = free-more b ds c text (length p) e more.2.free;
  },
  more.3,
)

at-byte : (b : Bool) (ds : List (List ℕ)) (c : ℕ) (text : List ℕ) → ((n : ℕ) → n ≤ length text → AreCut b ds (drop n text) (pieces_past b ds n text))
    → (o : Option ℕ) → matched b ds (c ∷ text) ≡ o → IsWithin (c ∷ text) o → AreCut b ds (c ∷ text) (cut_at o c (λ n. pieces_past b ds n text))
at-byte b ds c text rest None e inside = in-front b ds c text (pieces_past b ds 0 text) e (rest 0 (omega arith))
at-byte b ds c text rest (Some zero) e inside = absurd (omega (arith, inside.0))
at-byte b ds c text rest (Some (suc m)) e inside =
    let all : List ℕ = c ∷ text in
    let n : ℕ = suc m in
    let back : m ≡ n - 1 = omega arith in
    inr (
      take n all,
      drop n all,
      record {
        joined = sym (take-append-drop n all);
        first = ap (matched b ds) (take-append-drop n all) ∙ e ∙ ap Some (sym (length-take-le n all inside.1));
        free = λ i h. absurd (omega (arith, h));
      },
      subst (λ (k : ℕ). AreCut b ds (drop m text) (pieces_past b ds k text)) back (rest m (omega (arith, inside.1))),
    )

cut-past : (b : Bool) (ds : List (List ℕ)) → none_empty ds ≡ true → (text : List ℕ) (n : ℕ) → n ≤ length text → AreCut b ds (drop n text) (pieces_past b ds n text)
cut-past b ds h [] zero k = inl (refl, refl, λ i e. absurd (omega (arith, e)))
cut-past b ds h [] (suc n) k = absurd (omega (arith, k))
cut-past b ds h (c ∷ text) (suc n) k = cut-past b ds h text n (omega (arith, k))
cut-past b ds h (c ∷ text) zero k = at-byte b ds c text (λ n i. cut-past b ds h text n i) (matched b ds (c ∷ text)) refl (within b ds (c ∷ text) h)

pub are-cut : (b : Bool) (ds : List (List ℕ)) (text : List ℕ) → none_empty ds ≡ true → AreCut b ds text (pieces b ds text)
are-cut b ds text h = cut-past b ds h text 0 (omega arith)
