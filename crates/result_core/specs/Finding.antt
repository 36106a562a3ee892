-- What a part of a formula comes to, in both ways of being evaluated.
--   wrong           an error, which comes from the formula's cell
--   result_of       an element as a result
--   in_context      what was found, in context: a single cell stands for its value
--   with_reference  what was found, with reference: a single cell stands for the range of itself
--   value_of        a result as a value: a range is read
--   of_value        a value as a result
--   value_found     the value of what was found
--   array_of        a result as a rectangle: a blank or missing one is the number 0, an error is that error
use Rattle.std.specs.Prelude.{pos, List, Result, Ok, Err}
use Rattle.value_core.specs.declared.array.ArrayNode.{ArrayNode}
use Rattle.value_core.specs.declared.array.ArrayNode.TheVariants as item
use Rattle.value_core.specs.declared.error.Error.{Error}
use Rattle.value_core.specs.declared.position.CellReferenceIndex.{CellReferenceIndex}
use Rattle.rectangle_core.specs.Rectangle.{one_by_one}
use Rattle.rectangle_core.specs.declared.value.Value.{Value}
use Rattle.rectangle_core.specs.declared.value.Value.TheVariants.{One, Missing, Grid}
use Rattle.book_core.specs.Contents.{Contents, read}
use Rattle.grid_core.specs.declared.calc_result.CalcResult.{CalcResult}
use Rattle.grid_core.specs.declared.calc_result.CalcResult.TheVariants as calc
use Rattle.result_core.specs.declared.found.Found.{Found}
use Rattle.result_core.specs.declared.found.Found.TheVariants.{Cell, Same}

abbrev pub wrong : CellReferenceIndex → Error → CalcResult
wrong cell e = calc.Error e cell

abbrev pub result_of : CellReferenceIndex → ArrayNode → CalcResult
result_of cell (item.Number n) = calc.Number n
result_of cell (item.Boolean b) = calc.Boolean b
result_of cell (item.String text) = calc.String text
result_of cell (item.Error e) = wrong cell e
result_of cell item.Empty = calc.EmptyCell

abbrev pub in_context : Contents → CellReferenceIndex → Found → CalcResult
in_context book cell (Cell at) = result_of cell (book.value at)
in_context book cell (Same result) = result

abbrev pub with_reference : Found → CalcResult
with_reference (Cell at) = calc.Range at at
with_reference (Same result) = result

abbrev pub value_of : Contents → CalcResult → Value
value_of book (calc.Number n) = One (item.Number n)
value_of book (calc.Boolean b) = One (item.Boolean b)
value_of book (calc.String text) = One (item.String text)
value_of book (calc.Error e origin) = One (item.Error e)
value_of book (calc.Range left right) = Grid (read book left right)
value_of book (calc.Array rows) = Grid rows
value_of book calc.EmptyCell = One item.Empty
value_of book calc.EmptyArg = Missing

abbrev pub of_value : CellReferenceIndex → Value → CalcResult
of_value cell (One element) = result_of cell element
of_value cell Missing = calc.EmptyArg
of_value cell (Grid rows) = calc.Array rows

abbrev pub value_found : Contents → CellReferenceIndex → Found → Value
value_found book cell found = value_of book (in_context book cell found)

abbrev pub array_of : Contents → CalcResult → Result (List (List ArrayNode)) Error
array_of book (calc.Number n) = Ok (one_by_one (item.Number n))
array_of book (calc.Boolean b) = Ok (one_by_one (item.Boolean b))
array_of book (calc.String text) = Ok (one_by_one (item.String text))
array_of book (calc.Error e origin) = Err e
array_of book (calc.Range left right) = Ok (read book left right)
array_of book (calc.Array rows) = Ok rows
array_of book calc.EmptyCell = Ok (one_by_one (item.Number (pos 0)))
array_of book calc.EmptyArg = Ok (one_by_one (item.Number (pos 0)))
