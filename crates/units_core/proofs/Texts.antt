-- Parts of texts, as the library finds and replaces them.
--   holds-is      a text holds a part just where the search finds it
--   replaced-is   what the library makes of a text is the text with each part replaced
use Rattle.std.proofs.Common.{◌≡◌, ℕ, zero, suc, ◌+◌, ◌-◌, ◌<◌, ◌≤◌, Bool, true, false, List, [], ◌∷◌, ◌++◌, length, take, drop, None, refl, sym, ap, subst, ◌∙◌, inl, inr, arith}
use Rattle.std.specs.Prelude.{nat_eq, MatchBool}
use Rattle.std.specs.List.{starts_with}
use Rattle.std.specs.Str.Iter.{HasSubslice}
use Rattle.std.specs.Str.Pattern.{FindsText, HasMatch, LacksTextAt}
use Rattle.std.specs.Str.Replace.{ReplacesMatches}
use Rattle.std.proofs.lemmas.Bool.{or_cases, or_left, or_right, false_from_ne_true, cond-true, cond-false}
use Rattle.std.proofs.lemmas.Bool.Decides.{Decides-eqb}
use Rattle.std.proofs.lemmas.Slice.Eq.{starts_is}
use Rattle.std.proofs.lemmas.Str.Pattern.{contains_text}
use denote.Ref.{Bor}
use Rattle.units_core.specs.Replace.{holds, replaced, replaced_behind}

-- where a text begins with a part, the rest follows
begins-back : (text part : List ℕ) → starts_with nat_eq text part ≡ true → text ≡ part ++ drop (length part) text
begins-back text part h = (starts_is Decides-eqb text part (starts_with nat_eq text part) refl).0 h

begins : (part rest : List ℕ) → starts_with nat_eq (part ++ rest) part ≡ true
begins part rest = (starts_is Decides-eqb (part ++ rest) part (starts_with nat_eq (part ++ rest) part) refl).1 rest refl

lacks : (text part : List ℕ) → LacksTextAt part text 0 → starts_with nat_eq text part ≡ false
lacks text part h = false_from_ne_true (starts_with nat_eq text part) (λ e. h (drop (length part) text) (begins-back text part e))

holds-there : (front part rest : List ℕ) → holds part (front ++ (part ++ rest)) ≡ true
holds-there [] [] [] = refl
holds-there [] [] (byte ∷ rest) = refl
holds-there [] (byte ∷ part) rest = or_left _ _ (begins (byte ∷ part) rest)
holds-there (byte ∷ front) part rest = or_right _ _ (holds-there front part rest)

holds-back : (part text : List ℕ) → holds part text ≡ true → HasSubslice text part
holds-back part [] h = ([], drop (length part) [], begins-back [] part h)
holds-back part (byte ∷ text) h = elim (or_cases _ _ h) [
  | inl e ↦ ([], drop (length part) (byte ∷ text), begins-back (byte ∷ text) part e)
  | inr e ↦ (let deeper = holds-back part text e in (byte ∷ deeper.0, deeper.1, ap (λ bytes. byte ∷ bytes) deeper.2))
]

one-answer : (a b : Bool) → (a ≡ true → b ≡ true) → (b ≡ true → a ≡ true) → a ≡ b
one-answer true b f g = sym (f refl)
one-answer false true f g = g refl
one-answer false false f g = refl

pub holds-is : (result : Bool) (part text : List ℕ) → MatchBool result (HasMatch (FindsText part) text) (FindsText part text None) → result ≡ holds part text
holds-is result part text h = let there = contains_text result part text h in
    one-answer result (holds part text)
    (λ e. let at = there.0 e in subst (λ bytes. holds part bytes ≡ true) (sym at.2) (holds-there at.0 part at.1))
    (λ e. there.1 (holds-back part text e))

-- behind a part that was replaced
behind : (old new part text : List ℕ) → replaced_behind (length part) old new (part ++ text) ≡ replaced old new text
behind old new [] text = refl
behind old new (byte ∷ part) text = behind old new part text

less-one : (byte : ℕ) (old : List ℕ) → length (byte ∷ old) - 1 ≡ length old
less-one byte old = omega arith

replaced-first : (old new text : List ℕ) → 0 < length old → replaced old new (old ++ text) ≡ new ++ replaced old new text
replaced-first [] new text h = absurd (omega arith)
replaced-first (byte ∷ old) new text h =
    cond-true _ _ _ (begins (byte ∷ old) text)
    ∙ ap (λ skipped. new ++ replaced_behind skipped (byte ∷ old) new (old ++ text)) (less-one byte old)
    ∙ ap (λ rest. new ++ rest) (behind (byte ∷ old) new old text)

replaced-none : (old new text : List ℕ) → 0 < length old → ((i : ℕ) → i ≤ length text → LacksTextAt old text i) → replaced old new text ≡ text
replaced-none old new [] some h = refl
replaced-none old new (byte ∷ text) some h =
    cond-false _ _ _ (lacks (byte ∷ text) old (h 0 (omega arith)))
    ∙ ap (λ rest. byte ∷ rest) (replaced-none old new text some (λ i within. h (suc i) (omega arith)))

not-empty : (old rest : List ℕ) → 0 < length old → [] ≡ old ++ rest → ⊥
not-empty [] rest some e = omega arith
not-empty (byte ∷ old) rest some e = cc

replaced-one : (old new text rest : List ℕ) (a : ℕ) → 0 < length old → ((i : ℕ) → i < a → LacksTextAt old text i) → drop a text ≡ old ++ rest
    → replaced old new text ≡ take a text ++ (new ++ replaced old new rest)
replaced-one old new text rest zero some h e =
    ap (λ bytes. replaced old new bytes) e ∙ replaced-first old new rest some
replaced-one old new [] rest (suc a) some h e = absurd (not-empty old rest some e)
replaced-one old new (byte ∷ text) rest (suc a) some h e =
    cond-false _ _ _ (lacks (byte ∷ text) old (h 0 (omega arith)))
    ∙ ap (λ made. byte ∷ made) (replaced-one old new text rest a some (λ i before. h (suc i) (omega arith)) e)

pub replaced-is : (n : ℕ) (old : Bor (List ℕ)) (new text out : List ℕ) → 0 < length old.now
    → ReplacesMatches (λ (p : Bor (List ℕ)). FindsText p.now) (λ p q. q.now ≡ p.now) new n old text out → out ≡ replaced old.now new text
replaced-is zero old new text out some h = h.1 ∙ sym (replaced-none old.now new text some h.0)
replaced-is (suc n) old new text out some h = elim h.6 [
  | inl more ↦ (
      let same : h.3 ≡ replaced h.2.now new (drop h.1 text) = replaced-is n h.2 new (drop h.1 text) h.3 (subst (λ bytes. 0 < length bytes) (sym h.5) some) more.1 in
      h.7 ∙ ap (λ made. take h.0 text ++ (new ++ made)) (same ∙ ap (λ bytes. replaced bytes new (drop h.1 text)) h.5)
      ∙ sym (replaced-one old.now new text (drop h.1 text) h.0 some h.4.0 h.4.1.split))
  | inr stuck ↦ (let same : h.0 ≡ h.1 = stuck.0 in let ends : h.1 ≡ h.0 + length old.now = h.4.1.ends in absurd (omega arith))
]

pub ruleset texts = (holds-is)
