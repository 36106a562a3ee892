-- INDIRECT. The checks stand in their order.
--   meant           the range that a text means, by letters and digits or by the numbers of rows and columns
--   indirect_call   that range, else #REF!
use Rattle.std.specs.Prelude.{ℕ, Bool, true, if◌then◌else◌, List, Option, Some, None, Result, Ok, Err}
use Rattle.value_core.specs.declared.error.Error.{Error}
use Rattle.value_core.specs.declared.error.Error.TheVariants.{REF}
use Rattle.value_core.specs.declared.position.CellReferenceIndex.{CellReferenceIndex}
use Rattle.value_core.specs.declared.position.Range.{Range as Ends}
use Rattle.book_core.specs.Contents.{Contents}
use Rattle.grid_core.specs.declared.calc_result.CalcResult.{CalcResult}
use Rattle.grid_core.specs.declared.calc_result.CalcResult.TheVariants.{Range}
use Rattle.result_core.specs.declared.found.Found.{Found}
use Rattle.reader_core.specs.Reading.{read_a1, read_r1c1}
use Rattle.argument_core.specs.Check.{after}
use Rattle.argument_core.specs.Count.{one_or_two}
use Rattle.argument_core.specs.Argument.{given_or, text_in, truth_in}

abbrev pub meant : Contents → CellReferenceIndex → Bool → List ℕ → Option Ends
meant book cell a1 text = if a1 then read_a1 book.sheets cell.sheet text else read_r1c1 book.sheets cell text

abbrev pub range_or_reference : Option Ends → Result CalcResult Error
range_or_reference (Some range) = Ok (Range range.left range.right)
range_or_reference None = Err REF

abbrev pub indirect_call : Contents → CellReferenceIndex → List Found → Result CalcResult Error
indirect_call book cell args =
    after (one_or_two args) (λ asked.
    after (text_in book cell asked.first) (λ text.
    after (given_or (truth_in book cell) true asked.second) (λ a1.
    range_or_reference (meant book cell a1 text))))
