-- What is seen of a part, and where the same is seen.
--   same_shape-is, same_shown-is   where the same is seen, it is the same
--   set-same    a list whose element is set to what it is
use Rattle.std.proofs.Common.{◌≡◌, ℕ, zero, suc, Bool, true, false, List, [], ◌∷◌, slice_get, Some, refl, sym, ap, ap₂}
use Rattle.std.proofs.lemmas.Bool.{and_parts}
use Rattle.std.proofs.lemmas.Bool.Decides.{Decides-int_eq}
use Rattle.std.specs.List.{slice_set}
use Rattle.kind_table.specs.declared.shown.Shown.{Shown}
use Rattle.kind_table.specs.declared.shown.Shown.TheVariants as shown
use Rattle.kind_table.specs.declared.static_result.StaticResult.{StaticResult}
use Rattle.kind_table.specs.declared.static_result.StaticResult.TheVariants.{Scalar, Array, Range, Unknown}
use Rattle.shape_core.specs.Shape.{same_flag}
use Rattle.mark_core.specs.Mark.{same_shape, same_shown}

same_flag-is : (a b : Bool) → same_flag a b ≡ true → a ≡ b
same_flag-is true true h = refl
same_flag-is true false h = cc
same_flag-is false true h = cc
same_flag-is false false h = refl

pub same_shape-is : (s t : StaticResult) → same_shape s t ≡ true → s ≡ t
same_shape-is Scalar Scalar h = refl
same_shape-is Scalar (Array c d) h = cc
same_shape-is Scalar (Range c d) h = cc
same_shape-is Scalar Unknown h = cc
same_shape-is (Array a b) Scalar h = cc
same_shape-is (Array a b) (Array c d) h = let both = and_parts _ _ h in ap₂ Array ((Decides-int_eq a c).0 both.0) ((Decides-int_eq b d).0 both.1)
same_shape-is (Array a b) (Range c d) h = cc
same_shape-is (Array a b) Unknown h = cc
same_shape-is (Range a b) Scalar h = cc
same_shape-is (Range a b) (Array c d) h = cc
same_shape-is (Range a b) (Range c d) h = let both = and_parts _ _ h in ap₂ Range ((Decides-int_eq a c).0 both.0) ((Decides-int_eq b d).0 both.1)
same_shape-is (Range a b) Unknown h = cc
same_shape-is Unknown Scalar h = cc
same_shape-is Unknown (Array c d) h = cc
same_shape-is Unknown (Range c d) h = cc
same_shape-is Unknown Unknown h = refl

pub same_shown-is : (s t : Shown) → same_shown s t ≡ true → s ≡ t
same_shown-is shown.Nothing shown.Nothing h = refl
same_shown-is shown.Nothing shown.One h = cc
same_shown-is shown.Nothing shown.Reference h = cc
same_shown-is shown.Nothing (shown.Range c d) h = cc
same_shown-is shown.One shown.Nothing h = cc
same_shown-is shown.One shown.One h = refl
same_shown-is shown.One shown.Reference h = cc
same_shown-is shown.One (shown.Range c d) h = cc
same_shown-is shown.Reference shown.Nothing h = cc
same_shown-is shown.Reference shown.One h = cc
same_shown-is shown.Reference shown.Reference h = refl
same_shown-is shown.Reference (shown.Range c d) h = cc
same_shown-is (shown.Range a b) shown.Nothing h = cc
same_shown-is (shown.Range a b) shown.One h = cc
same_shown-is (shown.Range a b) shown.Reference h = cc
same_shown-is (shown.Range a b) (shown.Range c d) h = let both = and_parts _ _ h in ap₂ shown.Range (same_flag-is a c both.0) (same_flag-is b d both.1)

pub set-same : {A : Type 0} (xs : List A) (i : ℕ) (x : A) → slice_get xs i ≡ Some x → slice_set xs i x ≡ xs
set-same [] i x h = cc
set-same (y ∷ xs) zero x h = let same : y ≡ x = cc in ap (λ z. z ∷ xs) (sym same)
set-same (y ∷ xs) (suc i) x h = ap (λ rest. y ∷ rest) (set-same xs i x h)
