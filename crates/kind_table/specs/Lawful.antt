-- Every table of kinds is lawful, since the laws hold of each pattern.
--   signature_by_past_count  by every pattern of signatures, no call takes an argument past its count
--   shape_by_monotone        by every pattern of shapes, at most from arguments that are at most
--   shape_by_well_formed     by every pattern of shapes, well formed from well-formed arguments
--   table_of_is_lawful       so the table of any kinds is lawful whose values have the sizes that their shapes speak of
--   crate_table_is_lawful    so the table of this crate is
use Rattle.std.proofs.Common.{◌≡◌, ℕ, zero, suc, ◌≤◌, nat_lt, Bool, true, false, ◌&&◌, cond, eqb, if◌then◌else◌, List, [], ◌∷◌, map, length, Option, Some, None, All, refl, arith}
use Rattle.std.specs.List.{AllZip, list_all, slice_get}
use Rattle.std.specs.Option.{option_map_or}
use Rattle.std.proofs.lemmas.Bool.Decides.{nat_tests}
use Rattle.std.proofs.lemmas.Int.{ints}
use Rattle.std.proofs.lemmas.List.Elements.{All-head, All-tail, length_all_zip}
use Rattle.kind_table.specs.declared.kind.Kind.{Kind}
use Rattle.kind_table.specs.declared.pattern.Pattern.{Pattern}
use Rattle.kind_table.specs.declared.shape_pattern.ShapePattern.{ShapePattern}
use Rattle.kind_table.specs.declared.shape_pattern.ShapePattern.TheVariants.{Scalar, ScalarArguments, Unknown, SecondArgument, UnknownOfThree}
use Rattle.kind_table.specs.declared.signature.Signature.{Signature}
use Rattle.kind_table.specs.declared.signature.Signature.TheVariants.{Error}
use Rattle.kind_table.specs.declared.static_result.StaticResult.{StaticResult}
use Rattle.kind_table.specs.declared.static_result.StaticResult.TheVariants as static
use Rattle.kind_table.specs.Shape.{IsAtMost, IsWellFormed}
use Rattle.kind_table.specs.ShapeLaws.{IsAtMost-refl, as_array_monotone, as_array_well_formed, scalar_arguments_monotone, scalar_arguments_well_formed}
use Rattle.kind_table.specs.ShapePattern.{shape_by}
use Rattle.kind_table.specs.Pattern.{signature_by, takes, place}
use Rattle.kind_table.specs.Table.{IsLawful}
use Rattle.kind_table.specs.CrateTable.{crate_table, fits_pattern, is_scalar_arguments, kinds, table_of}
use Rattle.kind_table.specs.Fit.{Fits, FitsCall, SizeFits}
use Rattle.kind_table.specs.FitLaws.{scalar_arguments_fit}
use Rattle.rectangle_core.specs.Rectangle.{height, width}
use Rattle.rectangle_core.specs.declared.value.Value.{Value}
use Rattle.rectangle_core.specs.declared.value.Value.TheVariants.{One, Missing, Grid}
use Rattle.kind_values.specs.KindValue.{kind_value}
use Rattle.kind_values.specs.Size.{columns_of, greatest, keeps_sizes, rows_of}
use Rattle.kind_values.specs.Size as sizes
use Rattle.kind_values.specs.declared.value_rule.ValueRule.{ValueRule}
use Rattle.kind_values.specs.declared.value_rule.ValueRule.TheVariants.{NotImplemented}
use Rattle.kind_values.proofs.Sizes.{kind-values-fit}

-- ---- signatures

unless : (test : Bool) (signature : Signature) → test ≡ false → cond test signature Error ≡ Error
unless test signature h = rw h

pub signature_by_past_count : (pattern : Pattern) (count index : ℕ) → count ≤ index → signature_by pattern count index ≡ Error
unfolding signature_by
signature_by_past_count pattern count index h =
    unless (nat_lt index count && takes pattern count) (place pattern count index) (let past : nat_lt index count ≡ false = grind (arith, nat_tests) in rw past)

-- ---- shapes

second_monotone : (lower upper : List StaticResult) → AllZip IsAtMost lower upper → IsAtMost (shape_by SecondArgument lower) (shape_by SecondArgument upper)
second_monotone [] upper each = tt
second_monotone (s ∷ []) upper each = tt
second_monotone (s ∷ s' ∷ ss) [] each = absurd each
second_monotone (s ∷ s' ∷ ss) (t ∷ []) each = absurd each.1
second_monotone (s ∷ s' ∷ ss) (t ∷ t' ∷ ts) each = as_array_monotone s' t' each.1.0

second_well_formed : (shapes : List StaticResult) → All IsWellFormed shapes → IsWellFormed (shape_by SecondArgument shapes)
second_well_formed [] each = tt
second_well_formed (s ∷ []) each = tt
second_well_formed (s ∷ s' ∷ ss) each = as_array_well_formed s' (All-head IsWellFormed s' ss (All-tail IsWellFormed s (s' ∷ ss) each))

of_three_well_formed : (test : Bool) → IsWellFormed (cond test static.Unknown static.Scalar)
of_three_well_formed true = tt
of_three_well_formed false = tt

pub shape_by_monotone : (pattern : ShapePattern) (lower upper : List StaticResult) → AllZip IsAtMost lower upper → IsAtMost (shape_by pattern lower) (shape_by pattern upper)
shape_by_monotone Scalar lower upper each = tt
shape_by_monotone ScalarArguments lower upper each = scalar_arguments_monotone lower upper each
shape_by_monotone Unknown lower upper each = tt
shape_by_monotone SecondArgument lower upper each = second_monotone lower upper each
shape_by_monotone UnknownOfThree lower upper each =
    rw (length_all_zip IsAtMost lower upper each) (IsAtMost-refl (shape_by UnknownOfThree upper))

pub shape_by_well_formed : (pattern : ShapePattern) (shapes : List StaticResult) → All IsWellFormed shapes → IsWellFormed (shape_by pattern shapes)
shape_by_well_formed Scalar shapes each = tt
shape_by_well_formed ScalarArguments shapes each = scalar_arguments_well_formed shapes each
shape_by_well_formed Unknown shapes each = tt
shape_by_well_formed SecondArgument shapes each = second_well_formed shapes each
shape_by_well_formed UnknownOfThree shapes each = of_three_well_formed (eqb (length shapes) 3)

-- ---- kinds

of_kind_past_count : (kind : Option Kind) (count index : ℕ) → count ≤ index → option_map_or (λ (k : Kind). signature_by k.signature count index) kind Error ≡ Error
of_kind_past_count None count index h = refl
of_kind_past_count (Some kind) count index h = signature_by_past_count kind.signature count index h

of_kind_monotone : (kind : Option Kind) (lower upper : List StaticResult) → AllZip IsAtMost lower upper → IsAtMost (option_map_or (λ (k : Kind). shape_by k.shape lower) kind static.Scalar) (option_map_or (λ (k : Kind). shape_by k.shape upper) kind static.Scalar)
of_kind_monotone None lower upper each = tt
of_kind_monotone (Some kind) lower upper each = shape_by_monotone kind.shape lower upper each

of_kind_well_formed : (kind : Option Kind) (shapes : List StaticResult) → All IsWellFormed shapes → IsWellFormed (option_map_or (λ (k : Kind). shape_by k.shape shapes) kind static.Scalar)
of_kind_well_formed None shapes each = tt
of_kind_well_formed (Some kind) shapes each = shape_by_well_formed kind.shape shapes each

-- ---- values

single_fits_call : (shape : StaticResult) (value : Value) → IsWellFormed shape → sizes.Fits 1 1 value → FitsCall shape value
single_fits_call shape (One element) p fit = record { is_result = tt; fits = tt }
single_fits_call shape Missing p fit = absurd fit.present
single_fits_call shape (Grid rows) p fit = record { is_result = tt; fits = smaller shape (height rows) (width rows) p fit.rows_fit fit.columns_fit }
  where
    smaller : (shape : StaticResult) (rows columns : ℕ) → IsWellFormed shape → rows ≤ 1 → columns ≤ 1 → SizeFits shape rows columns
    smaller static.Scalar rows columns p h k = (h, k)
    smaller (static.Array a b) rows columns p h k = (omega (arith, ints), omega (arith, ints))
    smaller (static.Range a b) rows columns p h k = (omega (arith, ints), omega (arith, ints))
    smaller static.Unknown rows columns p h k = tt

sized_fits_call : (shape : StaticResult) (value : Value) (rows columns : ℕ) → SizeFits shape rows columns → sizes.Fits rows columns value → FitsCall shape value
sized_fits_call shape (One element) rows columns e fit = record { is_result = tt; fits = tt }
sized_fits_call shape Missing rows columns e fit = absurd fit.present
sized_fits_call shape (Grid elements) rows columns e fit = record { is_result = tt; fits = smaller shape (height elements) (width elements) rows columns fit.rows_fit fit.columns_fit e }
  where
    smaller : (shape : StaticResult) (h w rows columns : ℕ) → h ≤ rows → w ≤ columns → SizeFits shape rows columns → SizeFits shape h w
    smaller static.Scalar h w rows columns p q e = (omega (arith, e.0), omega (arith, e.1))
    smaller (static.Array a b) h w rows columns p q e = (omega (arith, ints), omega (arith, ints))
    smaller (static.Range a b) h w rows columns p q e = (omega (arith, ints), omega (arith, ints))
    smaller static.Unknown h w rows columns p q e = tt

kept_by : (shape : ShapePattern) (rule : ValueRule) (keeps : Bool) (shapes : List StaticResult) (values : List Value) → All IsWellFormed shapes → AllZip Fits shapes values
    → (if keeps then is_scalar_arguments shape else true) ≡ true
    → sizes.Fits (if keeps then greatest (map rows_of values) else 1) (if keeps then greatest (map columns_of values) else 1) (kind_value rule values)
    → FitsCall (shape_by shape shapes) (kind_value rule values)
kept_by ScalarArguments rule true shapes values each fit h k = sized_fits_call _ _ _ _ (scalar_arguments_fit shapes values each fit) k
kept_by Scalar rule true shapes values each fit h k = cc
kept_by Unknown rule true shapes values each fit h k = cc
kept_by SecondArgument rule true shapes values each fit h k = cc
kept_by UnknownOfThree rule true shapes values each fit h k = cc
kept_by shape rule false shapes values each fit h k = single_fits_call _ _ (shape_by_well_formed shape shapes each) k

of_kind_value_fits : (kind : Option Kind) (shapes : List StaticResult) (values : List Value) → All IsWellFormed shapes → AllZip Fits shapes values → option_map_or fits_pattern kind true ≡ true
    → FitsCall (option_map_or (λ (k : Kind). shape_by k.shape shapes) kind static.Scalar) (option_map_or (λ (k : Kind). kind_value k.value values) kind (kind_value NotImplemented values))
of_kind_value_fits None shapes values each fit h = record { is_result = tt; fits = tt }
of_kind_value_fits (Some kind) shapes values each fit h = kept_by kind.shape kind.value (keeps_sizes kind.value) shapes values each fit h (kind-values-fit kind.value values)

fits_at : (kinds : List Kind) (id : ℕ) → list_all fits_pattern kinds ≡ true → option_map_or fits_pattern (slice_get kinds id) true ≡ true
fits_at [] id h = refl
fits_at (kind ∷ kinds) zero h = and_left (fits_pattern kind) (list_all fits_pattern kinds) h
  where
    and_left : (a b : Bool) → (a && b) ≡ true → a ≡ true
    and_left true b h = refl
    and_left false b h = h
fits_at (kind ∷ kinds) (suc id) h = fits_at kinds id (and_right (fits_pattern kind) (list_all fits_pattern kinds) h)
  where
    and_right : (a b : Bool) → (a && b) ≡ true → b ≡ true
    and_right true b h = h
    and_right false b h = cc

-- ---- tables

pub table_of_is_lawful : (kinds : List Kind) → list_all fits_pattern kinds ≡ true → IsLawful (table_of kinds)
table_of_is_lawful kinds h = record {
  well_formed = λ id. of_kind_well_formed (slice_get kinds id);
  monotone = λ id. of_kind_monotone (slice_get kinds id);
  past_count = λ id. of_kind_past_count (slice_get kinds id);
  value_fits = λ id shapes values each fit. of_kind_value_fits (slice_get kinds id) shapes values each fit (fits_at kinds id h);
}

kinds_fit : list_all fits_pattern kinds ≡ true
unfolding kinds
kinds_fit = refl

pub crate_table_is_lawful : IsLawful crate_table
crate_table_is_lawful = table_of_is_lawful kinds kinds_fit
