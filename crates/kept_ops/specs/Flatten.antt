-- TOCOL and TOROW.
--   is_left_out    whether an element is left out: the first kind are blanks, the second errors
--   stays          it is not
--   strip_or_calc  some elements in one column, or one row; `#CALC!` where there is none
--   flattened, flatten_of   the elements that stay, by rows or by columns; `#VALUE!` for a mode that there isn't
use Rattle.std.specs.Prelude.{ℤ, Bool, false, not, Option, Some, None, List, [], ◌∷◌}
use Rattle.std.specs.List.{filter}
use Rattle.value_core.specs.declared.array.ArrayNode.{ArrayNode}
use Rattle.value_core.specs.declared.array.ArrayNode.TheVariants.{Number, Boolean, String, Error as error, Empty}
use Rattle.value_core.specs.declared.error.Error.TheVariants.{CALC, VALUE}
use Rattle.value_core.specs.declared.position.CellReferenceIndex.{CellReferenceIndex}
use Rattle.grid_core.specs.declared.calc_result.CalcResult.{CalcResult}
use Rattle.grid_core.specs.declared.calc_result.CalcResult.TheVariants.{Array, Error}
use Rattle.kept_ops.specs.declared.modes.Mode.{Mode}
use Rattle.kept_ops.specs.Lines.{scan}
use Rattle.kept_ops.specs.Mode.{mode_of}
use Rattle.kept_ops.specs.Strip.{strip}

abbrev pub is_left_out : Mode → ArrayNode → Bool
is_left_out ignore Empty = ignore.first
is_left_out ignore (error e) = ignore.second
is_left_out ignore (Number n) = false
is_left_out ignore (Boolean b) = false
is_left_out ignore (String text) = false

abbrev pub stays : Mode → ArrayNode → Bool
stays ignore element = not (is_left_out ignore element)

abbrev pub strip_or_calc : CellReferenceIndex → Bool → List ArrayNode → CalcResult
strip_or_calc cell as_column [] = Error CALC cell
strip_or_calc cell as_column (element ∷ elements) = Array (strip as_column (element ∷ elements))

abbrev pub flattened : CellReferenceIndex → Option Mode → Bool → Bool → List (List ArrayNode) → CalcResult
flattened cell (Some ignore) by_column as_column rows = strip_or_calc cell as_column (filter (stays ignore) (scan by_column rows))
flattened cell None by_column as_column rows = Error VALUE cell

abbrev pub flatten_of : CellReferenceIndex → ℤ → Bool → Bool → List (List ArrayNode) → CalcResult
flatten_of cell ignore by_column as_column rows = flattened cell (mode_of ignore) by_column as_column rows
