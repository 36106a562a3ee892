-- ROWS, COLUMNS and AREAS.
--   rows_in, columns_in   how many rows and columns a result with reference has: one value has one of each; an error is the answer
--   count_result          a count as a number
--   areas_in              one area, whatever it is; an error is the answer
--   rows_call, columns_call, areas_call
use Rattle.std.specs.Prelude.{ℕ, pos, ◌*ℤ◌, List, Result, Ok, Err}
use Rattle.value_core.specs.declared.error.Error.{Error}
use Rattle.value_core.specs.declared.position.CellReferenceIndex.{CellReferenceIndex}
use Rattle.rectangle_core.specs.Rectangle.{height, width}
use Rattle.number_core.specs.Number.{in_range}
use Rattle.book_core.specs.Contents.{Contents, line_count}
use Rattle.grid_core.specs.declared.calc_result.CalcResult.{CalcResult}
use Rattle.grid_core.specs.declared.calc_result.CalcResult.TheVariants as calc
use Rattle.result_core.specs.Finding.{in_context, with_reference}
use Rattle.result_core.specs.declared.found.Found.{Found}
use Rattle.argument_core.specs.Check.{after}
use Rattle.argument_core.specs.Count.{one}

abbrev pub rows_in : CalcResult → Result ℕ Error
rows_in (calc.Range left right) = Ok (line_count left.row right.row)
rows_in (calc.Array rows) = Ok (height rows)
rows_in (calc.Error e origin) = Err e
rows_in other = Ok 1

abbrev pub columns_in : CalcResult → Result ℕ Error
columns_in (calc.Range left right) = Ok (line_count left.column right.column)
columns_in (calc.Array rows) = Ok (width rows)
columns_in (calc.Error e origin) = Err e
columns_in other = Ok 1

abbrev pub count_result : ℕ → Result CalcResult Error
count_result count = after (in_range (pos count *ℤ pos 1000000)) (λ number. Ok (calc.Number number))

abbrev pub areas_in : CalcResult → Result CalcResult Error
areas_in (calc.Error e origin) = Err e
areas_in other = Ok (calc.Number (pos 1000000))

abbrev pub rows_call : List Found → Result CalcResult Error
rows_call args = after (one args) (λ found. after (rows_in (with_reference found)) count_result)

abbrev pub columns_call : List Found → Result CalcResult Error
columns_call args = after (one args) (λ found. after (columns_in (with_reference found)) count_result)

abbrev pub areas_call : Contents → CellReferenceIndex → List Found → Result CalcResult Error
areas_call book cell args = after (one args) (λ found. areas_in (in_context book cell found))
