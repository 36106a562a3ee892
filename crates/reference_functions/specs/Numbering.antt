-- ROW and COLUMN, by the formula's cell and what the argument came to.
--   line_number      a whole number in millionths
--   numbered         the number of a line that comes so many lines behind another, as an element
--   row_grid         the numbers of a range's rows, in one column; column_grid, those of its columns, in one row
--   row_numbers, column_numbers   the number of the only row or column, or those numbers of several
--   row_of, column_of      the number of the formula's cell without an argument
--   row_call, column_call
use Rattle.std.specs.Prelude.{ℕ, ◌==◌, ℤ, pos, ◌+ℤ◌, ◌*ℤ◌, if◌then◌else◌, List, Option, Some, None, Result, Ok}
use Rattle.value_core.specs.declared.array.ArrayNode.TheVariants as item
use Rattle.value_core.specs.declared.error.Error.{Error}
use Rattle.value_core.specs.declared.position.CellReferenceIndex.{CellReferenceIndex}
use Rattle.value_core.specs.declared.position.Range.{Range}
use Rattle.value_core.specs.declared.array.ArrayNode.{ArrayNode}
use Rattle.rectangle_core.specs.Rectangle.{rectangle}
use Rattle.grid_core.specs.declared.calc_result.CalcResult.{CalcResult}
use Rattle.grid_core.specs.declared.calc_result.CalcResult.TheVariants as calc
use Rattle.reference_core.specs.Extent.{columns_of, rows_of}
use Rattle.result_core.specs.Single.{range_found}
use Rattle.result_core.specs.declared.found.Found.{Found}
use Rattle.argument_core.specs.Check.{after}
use Rattle.argument_core.specs.Count.{none_or_one}

abbrev pub line_number : ℤ → ℤ
line_number line = line *ℤ pos 1000000

abbrev pub numbered : ℤ → ℕ → ArrayNode
numbered first index = item.Number (line_number (first +ℤ pos index))

abbrev pub row_grid : Range → List (List ArrayNode)
row_grid range = rectangle (rows_of range) 1 (λ i j. numbered range.left.row i)

abbrev pub column_grid : Range → List (List ArrayNode)
column_grid range = rectangle 1 (columns_of range) (λ i j. numbered range.left.column j)

abbrev pub row_numbers : Range → CalcResult
row_numbers range =
    if rows_of range == 1 then calc.Number (line_number range.left.row)
    else calc.Array (row_grid range)

abbrev pub column_numbers : Range → CalcResult
column_numbers range =
    if columns_of range == 1 then calc.Number (line_number range.left.column)
    else calc.Array (column_grid range)

abbrev pub row_of : CellReferenceIndex → Option Found → Result CalcResult Error
row_of cell (Some found) = after (range_found found) (λ range. Ok (row_numbers range))
row_of cell None = Ok (calc.Number (line_number cell.row))

abbrev pub column_of : CellReferenceIndex → Option Found → Result CalcResult Error
column_of cell (Some found) = after (range_found found) (λ range. Ok (column_numbers range))
column_of cell None = Ok (calc.Number (line_number cell.column))

abbrev pub row_call : CellReferenceIndex → List Found → Result CalcResult Error
row_call cell args = after (none_or_one args) (row_of cell)

abbrev pub column_call : CellReferenceIndex → List Found → Result CalcResult Error
column_call cell args = after (none_or_one args) (column_of cell)
