-- INDEX. The checks stand in their order.
--   unless_other_area   the number of the only area, 1: below it #VALUE!, above it #REF!
--   area_in             that number of an argument, by its floor
--   line_of             the floor of a number in millionths; #VALUE! for one below 0
--   line_in             that of an argument
--   selection_of        the rows and columns that two numbers name, or one number alone; #REF! past the last row or column
--   is_one              whether they meet in one cell
--   part_of_range       the cells where they meet in a range: of one cell its value, of more the range of them
--   element_from        an element of an array, by its place among those where they meet; elements_from, the array of these
--   part_of_array       the elements where they meet in an array: of one element its value, of more the array of them
--   index_in_range, index_in_array   of a range, and of an array
--   index_in            of a source in context; one value is #VALUE!
--   index_call
use Rattle.std.specs.Prelude.{ℕ, ◌+◌, ◌-◌, ◌/◌, ◌==◌, ◌&&◌, ℤ, pos, negsuc, int_lt, Bool, if◌then◌else◌, List, Option, Some, None, unwrap_or, is_none, Result, Ok, Err}
use Rattle.value_core.specs.declared.array.ArrayNode.{ArrayNode}
use Rattle.value_core.specs.declared.error.Error.{Error}
use Rattle.value_core.specs.declared.error.Error.TheVariants.{REF, VALUE}
use Rattle.value_core.specs.declared.position.CellReferenceIndex.{CellReferenceIndex}
use Rattle.value_core.specs.declared.position.Range.{Range}
use Rattle.rectangle_core.specs.Rectangle.{element_at, height, or_blank, rectangle, width}
use Rattle.book_core.specs.Contents.{Contents, cell_in}
use Rattle.grid_core.specs.declared.calc_result.CalcResult.{CalcResult}
use Rattle.grid_core.specs.declared.calc_result.CalcResult.TheVariants as calc
use Rattle.reference_core.specs.Extent.{columns_of, rows_of}
use Rattle.reference_core.specs.Selection.{index_of}
use Rattle.reference_core.specs.declared.selection.Selection.{Selection}
use Rattle.result_core.specs.Finding.{in_context, result_of}
use Rattle.result_core.specs.declared.found.Found.{Found}
use Rattle.argument_core.specs.Check.{after}
use Rattle.argument_core.specs.Count.{two_to_four}
use Rattle.argument_core.specs.Argument.{floor_in, given_if, number_in}

abbrev pub unless_other_area : ℤ → Result ℤ Error
unless_other_area area = if int_lt area (pos 1) then Err VALUE else (if int_lt (pos 1) area then Err REF else Ok area)

abbrev pub area_in : Contents → CellReferenceIndex → Found → Result ℤ Error
area_in book cell found = after (floor_in book cell found) unless_other_area

abbrev pub line_of : ℤ → Result ℕ Error
line_of (pos number) = Ok (number / 1000000)
line_of (negsuc number) = Err VALUE

abbrev pub line_in : Contents → CellReferenceIndex → Found → Result ℕ Error
line_in book cell found = after (number_in book cell found) line_of

abbrev pub or_reference_error : Option Selection → Result Selection Error
or_reference_error (Some selection) = Ok selection
or_reference_error None = Err REF

abbrev pub selection_of : ℕ → ℕ → ℕ → Option ℕ → Result Selection Error
selection_of rows columns row column = or_reference_error (index_of rows columns row (unwrap_or column 0) (is_none column))

abbrev pub is_one : Selection → Bool
is_one selection = selection.row1 == selection.row2 && selection.column1 == selection.column2

abbrev pub first_cell : CellReferenceIndex → Selection → CellReferenceIndex
first_cell left selection = cell_in left (selection.row1 - 1) (selection.column1 - 1)

abbrev pub last_cell : CellReferenceIndex → Selection → CellReferenceIndex
last_cell left selection = cell_in left (selection.row2 - 1) (selection.column2 - 1)

abbrev pub part_of_range : Contents → CellReferenceIndex → CellReferenceIndex → Selection → CalcResult
part_of_range book cell left selection =
    if is_one selection then result_of cell (book.value (first_cell left selection))
    else calc.Range (first_cell left selection) (last_cell left selection)

abbrev pub element_from : List (List ArrayNode) → Selection → ℕ → ℕ → ArrayNode
element_from rows selection i j = or_blank (element_at rows (selection.row1 - 1 + i) (selection.column1 - 1 + j))

abbrev pub elements_from : List (List ArrayNode) → Selection → List (List ArrayNode)
elements_from rows selection =
    rectangle (selection.row2 - (selection.row1 - 1)) (selection.column2 - (selection.column1 - 1)) (element_from rows selection)

abbrev pub part_of_array : CellReferenceIndex → List (List ArrayNode) → Selection → CalcResult
part_of_array cell rows selection =
    if is_one selection then result_of cell (element_from rows selection 0 0) else calc.Array (elements_from rows selection)

abbrev pub index_in_range : Contents → CellReferenceIndex → ℕ → Option ℕ → Range → Result CalcResult Error
index_in_range book cell row column range =
    after (selection_of (rows_of range) (columns_of range) row column) (λ selection. Ok (part_of_range book cell range.left selection))

abbrev pub index_in_array : CellReferenceIndex → ℕ → Option ℕ → List (List ArrayNode) → Result CalcResult Error
index_in_array cell row column rows =
    after (selection_of (height rows) (width rows) row column) (λ selection. Ok (part_of_array cell rows selection))

abbrev pub index_in : Contents → CellReferenceIndex → ℕ → Option ℕ → CalcResult → Result CalcResult Error
index_in book cell row column (calc.Range left right) = index_in_range book cell row column (record { left = left; right = right })
index_in book cell row column (calc.Array rows) = index_in_array cell row column rows
index_in book cell row column (calc.Error e origin) = Err e
index_in book cell row column other = Err VALUE

abbrev pub index_call : Contents → CellReferenceIndex → List Found → Result CalcResult Error
index_call book cell args =
    after (two_to_four args) (λ asked.
    after (given_if (area_in book cell) asked.fourth) (λ area.
    after (line_in book cell asked.second) (λ row.
    after (given_if (line_in book cell) asked.third) (λ column.
    index_in book cell row column (in_context book cell asked.first)))))
