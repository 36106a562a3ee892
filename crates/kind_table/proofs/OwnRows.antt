-- The rows of the own kinds keep the order of shapes, for fixed answers to what the arguments show.
use Rattle.std.proofs.Common.{Bool, true, false, cond, List, [], ◌∷◌, length, nat_lt, Option, Some, None, option_and_then, slice_get}
use Rattle.std.specs.List.{AllZip}
use Rattle.call_core.specs.declared.function.Function.TheVariants.{Choose, Row, Column, Offset}
use Rattle.kind_table.specs.declared.static_result.StaticResult.{StaticResult}
use Rattle.kind_table.specs.declared.static_result.StaticResult.TheVariants.{Scalar, Array, Range, Unknown}
use Rattle.kind_table.specs.Shape.{IsAtMost, IsWellFormed, scalar_arguments}
use Rattle.kind_table.specs.ShapeLaws.{IsAtMost-refl, as_range_monotone, as_range_well_formed, scalar_arguments_monotone, scalar_arguments_well_formed}
use Rattle.kind_table.specs.OwnRow.{OwnRowsNeverRise, OwnRowsAreWellFormed, unless_varied, same_row, same_column, line_row, stays_single, offset_row, shows_of}

line_row_monotone : (same : Option Bool) (lower upper : List StaticResult) → AllZip IsAtMost lower upper → IsAtMost (line_row same lower) (line_row same upper)
line_row_monotone same [] upper each = tt
line_row_monotone same (s ∷ ss) [] each = absurd each
line_row_monotone (Some same) (s ∷ ss) (t ∷ ts) each = IsAtMost-refl (unless_varied same)
line_row_monotone None (Scalar ∷ ss) (t ∷ ts) each = tt
line_row_monotone None (Array a b ∷ ss) (Scalar ∷ ts) each = absurd each.0
line_row_monotone None (Array a b ∷ ss) (Array c d ∷ ts) each = tt
line_row_monotone None (Array a b ∷ ss) (Range c d ∷ ts) each = tt
line_row_monotone None (Array a b ∷ ss) (Unknown ∷ ts) each = tt
line_row_monotone None (Range a b ∷ ss) (Scalar ∷ ts) each = absurd each.0
line_row_monotone None (Range a b ∷ ss) (Array c d ∷ ts) each = tt
line_row_monotone None (Range a b ∷ ss) (Range c d ∷ ts) each = tt
line_row_monotone None (Range a b ∷ ss) (Unknown ∷ ts) each = tt
line_row_monotone None (Unknown ∷ ss) (Scalar ∷ ts) each = absurd each.0
line_row_monotone None (Unknown ∷ ss) (Array c d ∷ ts) each = tt
line_row_monotone None (Unknown ∷ ss) (Range c d ∷ ts) each = tt
line_row_monotone None (Unknown ∷ ss) (Unknown ∷ ts) each = tt

pub own_rows_never_rise : OwnRowsNeverRise
own_rows_never_rise Choose shows lower upper each =
    as_range_monotone (scalar_arguments lower) (scalar_arguments upper) (scalar_arguments_monotone lower upper each)
own_rows_never_rise Row shows lower upper each = line_row_monotone (option_and_then same_row (slice_get shows 0)) lower upper each
own_rows_never_rise Column shows lower upper each = line_row_monotone (option_and_then same_column (slice_get shows 0)) lower upper each
own_rows_never_rise Offset shows lower upper each = IsAtMost-refl (offset_row (shows_of shows))
own_rows_never_rise kind shows lower upper each = tt

unless_varied_well_formed : (single : Bool) → IsWellFormed (unless_varied single)
unless_varied_well_formed true = tt
unless_varied_well_formed false = tt

line_row_well_formed : (same : Option Bool) (shapes : List StaticResult) → IsWellFormed (line_row same shapes)
line_row_well_formed same [] = tt
line_row_well_formed (Some same) (s ∷ ss) = unless_varied_well_formed same
line_row_well_formed None (Scalar ∷ ss) = tt
line_row_well_formed None (Array a b ∷ ss) = tt
line_row_well_formed None (Range a b ∷ ss) = tt
line_row_well_formed None (Unknown ∷ ss) = tt

few_well_formed : (few single : Bool) → IsWellFormed (cond few Scalar (unless_varied single))
few_well_formed true single = tt
few_well_formed false single = unless_varied_well_formed single

pub own_rows_are_well_formed : OwnRowsAreWellFormed
own_rows_are_well_formed Choose shows shapes each =
    as_range_well_formed (scalar_arguments shapes) (scalar_arguments_well_formed shapes each)
own_rows_are_well_formed Row shows shapes each = line_row_well_formed (option_and_then same_row (slice_get shows 0)) shapes
own_rows_are_well_formed Column shows shapes each = line_row_well_formed (option_and_then same_column (slice_get shows 0)) shapes
own_rows_are_well_formed Offset shows shapes each = few_well_formed (nat_lt (length shows) 3) (stays_single (slice_get shows 0) (slice_get shows 3) (slice_get shows 4))
own_rows_are_well_formed kind shows shapes each = tt
