-- FILTER.
--   wrong_of         the error that an element of a mask is: a text counts as `#VALUE!`
--   first_wrong      that of the first element which is one
--   keeps            whether an element of a mask keeps its place: TRUE, or a number other than 0
--   marked           the places of a mask that keep, in order
--   is_column_of, is_row_of, is_mask_of   a mask is one column, one row, or either, of so many elements
--   kept_or_nothing  the rows of some numbers, or by columns the columns; nothing where there is none
--   filter_of        the mask is tried over the rows and then over the columns
use Rattle.std.specs.Prelude.{ℕ, Bool, true, false, not, ◌&&◌, ◌||◌, ◌==◌, if◌then◌else◌, List, [], ◌∷◌, length, Option, Some, None, slice_index_or}
use Rattle.std.specs.List.{filter, flat_map, range_with_len}
use Rattle.value_core.specs.declared.array.ArrayNode.{ArrayNode}
use Rattle.value_core.specs.declared.array.ArrayNode.TheVariants.{Number, Boolean, String, Error as error, Empty}
use Rattle.value_core.specs.declared.error.Error.{Error}
use Rattle.value_core.specs.declared.error.Error.TheVariants.{VALUE}
use Rattle.rectangle_core.specs.Rectangle.{height, width}
use Rattle.number_core.specs.Number.{is_zero}
use Rattle.kept_ops.specs.Part.{columns_at, rows_at}
use Rattle.kept_ops.specs.declared.filtering.Filtered.{Filtered}
use Rattle.kept_ops.specs.declared.filtering.Filtered.TheVariants.{Kept, Nothing, Wrong}

abbrev pub wrong_of : ArrayNode → Option Error
wrong_of (String text) = Some VALUE
wrong_of (error e) = Some e
wrong_of (Number n) = None
wrong_of (Boolean b) = None
wrong_of Empty = None

abbrev pub or_else : Option Error → Option Error → Option Error
or_else (Some e) other = Some e
or_else None other = other

abbrev pub first_wrong : List ArrayNode → Option Error
first_wrong [] = None
first_wrong (element ∷ elements) = or_else (wrong_of element) (first_wrong elements)

abbrev pub keeps : ArrayNode → Bool
keeps (Number n) = not (is_zero n)
keeps (Boolean b) = b
keeps (String text) = false
keeps (error e) = false
keeps Empty = false

abbrev pub is_marked : List ArrayNode → ℕ → Bool
is_marked mask i = keeps (slice_index_or mask i Empty)

abbrev pub marked : List ArrayNode → List ℕ
marked mask = filter (is_marked mask) (range_with_len 0 (length mask))

abbrev pub is_column_of : List (List ArrayNode) → ℕ → Bool
is_column_of mask count = (height mask == count) && (width mask == 1)

abbrev pub is_row_of : List (List ArrayNode) → ℕ → Bool
is_row_of mask count = (height mask == 1) && (width mask == count)

abbrev pub is_mask_of : List (List ArrayNode) → ℕ → Bool
is_mask_of mask count = is_column_of mask count || is_row_of mask count

abbrev pub kept_or_nothing : Bool → List (List ArrayNode) → List ℕ → Filtered
kept_or_nothing by_column rows [] = Nothing
kept_or_nothing by_column rows (i ∷ is) = Kept (if by_column then columns_at rows (i ∷ is) else rows_at rows (i ∷ is))

abbrev pub fitted : List (List ArrayNode) → List (List ArrayNode) → List ℕ → Filtered
fitted rows mask kept = if is_mask_of mask (height rows) then kept_or_nothing false rows kept
    else (if is_mask_of mask (width rows) then kept_or_nothing true rows kept else Wrong VALUE)

abbrev pub unless_wrong : Option Error → Filtered → Filtered
unless_wrong (Some e) answer = Wrong e
unless_wrong None answer = answer

abbrev pub filter_of : List (List ArrayNode) → List (List ArrayNode) → Filtered
filter_of rows mask = let elements = flat_map (λ row. row) mask in unless_wrong (first_wrong elements) (fitted rows mask (marked elements))
