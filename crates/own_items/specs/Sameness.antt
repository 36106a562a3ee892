-- When two values are one value, as a test. It goes by a value's code, the tree of numbers that a type's values are told apart by.
--   same_code   two codes are one code
--   same        two values have one code
--   same_from_iff     so they are one value
--   same-laws   and the test is an equivalence
use Rattle.std.specs.Prelude.{◌≡◌, Bool, true, false, ◌&&◌, ◌==◌, ◌↔◌, IsTrue, refl}
use Rattle.std.specs.Coded.{Coded}
use Rattle.std.specs.Cmp.{IsPartialEquivalence}
use Rattle.std.proofs.Common.{sym, ap, ap₂, ◌∙◌, subst}
use Rattle.std.proofs.lemmas.Bool.{and_parts, and_from, eqb-true, eq-eqb}
use base.Stored.{Gv, gnil, gnum, gcons}

abbrev pub same_code : Gv → Gv → Bool
same_code gnil gnil = true
same_code gnil (gnum n) = false
same_code gnil (gcons c d) = false
same_code (gnum m) gnil = false
same_code (gnum m) (gnum n) = m == n
same_code (gnum m) (gcons c d) = false
same_code (gcons a b) gnil = false
same_code (gcons a b) (gnum n) = false
same_code (gcons a b) (gcons c d) = same_code a c && same_code b d

one_code : (a b : Gv) → same_code a b ≡ true → a ≡ b
one_code gnil gnil h = refl
one_code gnil (gnum n) h = cc
one_code gnil (gcons c d) h = cc
one_code (gnum m) gnil h = cc
one_code (gnum m) (gnum n) h = ap gnum (eqb-true m n h)
one_code (gnum m) (gcons c d) h = cc
one_code (gcons a b) gnil h = cc
one_code (gcons a b) (gnum n) h = cc
one_code (gcons a b) (gcons c d) h = let parts = and_parts (same_code a c) _ h in ap₂ gcons (one_code a c parts.0) (one_code b d parts.1)

own_code : (a : Gv) → same_code a a ≡ true
own_code gnil = refl
own_code (gnum n) = eq-eqb n n refl
own_code (gcons a b) = and_from _ _ (own_code a) (own_code b)

module _ {A : Type 0} (coded : Coded A) where
  abbrev pub same : A → A → Bool
  same a b = same_code (coded.code a) (coded.code b)

  pub one_value : (a b : A) → same a b ≡ true → a ≡ b
  one_value a b h = coded.inj a b (one_code (coded.code a) (coded.code b) h)

  pub same_since : (a b : A) → a ≡ b → same a b ≡ true
  same_since a b e = subst (λ x. same a x ≡ true) e (own_code (coded.code a))

  -- a test that tells whether two values are one is this test
  pub same_from_iff : (r : Bool) (a b : A) → IsTrue r ↔ (a ≡ b) → r ≡ same a b
  same_from_iff true a b h = sym (same_since a b (h.0 refl))
  same_from_iff false a b h = elim (same a b) as (λ v. same a b ≡ v → false ≡ v) [ true ↦ λ e. h.1 (one_value a b e) | false ↦ λ e. refl ] refl

  pub same-laws : IsPartialEquivalence same
  same-laws = record {
    symm = λ a b. elim (same a b) as (λ v. same a b ≡ v → v ≡ same b a) [
      | true ↦ λ e. sym (same_since b a (sym (one_value a b e)))
      | false ↦ λ e. elim (same b a) as (λ w. same b a ≡ w → false ≡ w) [ true ↦ λ f. sym e ∙ same_since a b (sym (one_value b a f)) | false ↦ λ f. refl ] refl
    ] refl;
    trans = λ a b c p q. same_since a c (one_value a b p ∙ one_value b c q);
  }
