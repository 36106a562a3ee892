-- OFFSET. The checks stand in their order.
--   range_result  a range as a result
--   moved_result  the range that lies so many rows and columns from a reference
--   moved_in      the same, by arguments: the numbers of rows and columns, and a height and a width where they are given
--   offset_call
use Rattle.std.specs.Prelude.{ℤ, List, Option, Result, Ok}
use Rattle.value_core.specs.declared.error.Error.{Error}
use Rattle.value_core.specs.declared.position.CellReferenceIndex.{CellReferenceIndex}
use Rattle.value_core.specs.declared.position.Range.{Range}
use Rattle.book_core.specs.Contents.{Contents}
use Rattle.grid_core.specs.declared.calc_result.CalcResult.{CalcResult}
use Rattle.grid_core.specs.declared.calc_result.CalcResult.TheVariants as calc
use Rattle.reference_core.specs.Offset.{offset_of}
use Rattle.result_core.specs.Single.{range_found}
use Rattle.result_core.specs.declared.found.Found.{Found}
use Rattle.argument_core.specs.Check.{after}
use Rattle.argument_core.specs.Count.{three_to_five}
use Rattle.argument_core.specs.Argument.{given_if, number_in}

abbrev pub range_result : Range → CalcResult
range_result range = calc.Range range.left range.right

abbrev pub moved_result : Range → ℤ → ℤ → Option ℤ → Option ℤ → Result CalcResult Error
moved_result reference rows columns height width =
    after (offset_of reference rows columns height width) (λ range. Ok (range_result range))

abbrev pub moved_in : Contents → CellReferenceIndex → Range → Found → Found → Option Found → Option Found → Result CalcResult Error
moved_in book cell reference second third fourth fifth =
    after (number_in book cell second) (λ rows.
    after (number_in book cell third) (λ columns.
    after (given_if (number_in book cell) fourth) (λ height.
    after (given_if (number_in book cell) fifth) (λ width.
    moved_result reference rows columns height width))))

abbrev pub offset_call : Contents → CellReferenceIndex → List Found → Result CalcResult Error
offset_call book cell args =
    after (three_to_five args) (λ asked.
    after (range_found asked.first) (λ reference.
    moved_in book cell reference asked.second asked.third asked.fourth asked.fifth))
