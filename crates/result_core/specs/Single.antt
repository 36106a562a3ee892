-- What was found as a single value.
--   single_found   the cell or the element that is cast: a range stands for the cell that `@` finds in it, and is #VALUE! where
--                  it finds none; an array is #NIMPL!, an error that error
--   element_of     that element
--   cast_found     its cast, or the first of these errors
--   range_found    what was found as a range: an error is that error, anything else is #VALUE!
use Rattle.std.specs.Prelude.{Option, Some, None, Result, Ok, Err}
use Rattle.value_core.specs.declared.array.ArrayNode.{ArrayNode}
use Rattle.value_core.specs.declared.array.ArrayNode.TheVariants as item
use Rattle.value_core.specs.declared.error.Error.{Error}
use Rattle.value_core.specs.declared.error.Error.TheVariants.{VALUE, NIMPL}
use Rattle.value_core.specs.declared.position.CellReferenceIndex.{CellReferenceIndex}
use Rattle.value_core.specs.declared.position.Range.{Range}
use Rattle.book_core.specs.Contents.{Contents}
use Rattle.book_core.specs.Meeting.{meets}
use Rattle.grid_core.specs.declared.calc_result.CalcResult.{CalcResult}
use Rattle.grid_core.specs.declared.calc_result.CalcResult.TheVariants as calc
use Rattle.result_core.specs.Finding.{with_reference}
use Rattle.result_core.specs.declared.found.Found.{Found}
use Rattle.result_core.specs.declared.found.Found.TheVariants.{Cell, Same}
use Rattle.result_core.specs.declared.single.Single.{Single}
use Rattle.result_core.specs.declared.single.Single.TheVariants.{At, Element}

abbrev pub at_or_value : Option CellReferenceIndex → Result Single Error
at_or_value (Some at) = Ok (At at)
at_or_value None = Err VALUE

abbrev pub single_in : CellReferenceIndex → CalcResult → Result Single Error
single_in cell (calc.Number n) = Ok (Element (item.Number n))
single_in cell (calc.Boolean b) = Ok (Element (item.Boolean b))
single_in cell (calc.String text) = Ok (Element (item.String text))
single_in cell (calc.Error e origin) = Err e
single_in cell (calc.Range left right) = at_or_value (meets cell left right)
single_in cell (calc.Array rows) = Err NIMPL
single_in cell calc.EmptyCell = Ok (Element item.Empty)
single_in cell calc.EmptyArg = Ok (Element item.Empty)

abbrev pub single_found : CellReferenceIndex → Found → Result Single Error
single_found cell (Cell at) = Ok (At at)
single_found cell (Same result) = single_in cell result

abbrev pub element_of : Contents → Single → ArrayNode
element_of book (At at) = book.value at
element_of book (Element element) = element

abbrev pub cast_single : {X : Type 0} → (ArrayNode → Result X Error) → Contents → Result Single Error → Result X Error
cast_single cast book (Ok single) = cast (element_of book single)
cast_single cast book (Err e) = Err e

abbrev pub cast_found : {X : Type 0} → (ArrayNode → Result X Error) → Contents → CellReferenceIndex → Found → Result X Error
cast_found cast book cell found = cast_single cast book (single_found cell found)

abbrev pub range_in : CalcResult → Result Range Error
range_in (calc.Range left right) = Ok (record { left = left; right = right })
range_in (calc.Error e origin) = Err e
range_in other = Err VALUE

abbrev pub range_found : Found → Result Range Error
range_found found = range_in (with_reference found)
