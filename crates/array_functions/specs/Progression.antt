-- SEQUENCE. A missing or absent argument is 1.
--   count_of, count_in   the floor of a number of rows or columns: none is #CALC!, below #VALUE!
--   unless_large         a size, unless it passes a limit
--   size_of_sequence     the rows and columns, with their checks before the start and the step are looked at
--   sequence_call
use Rattle.std.specs.Prelude.{ℕ, ℤ, List, Option, Some, None, Result, Ok, Err, unsigned_abs}
use Rattle.value_core.specs.declared.error.Error.{Error}
use Rattle.value_core.specs.declared.position.CellReferenceIndex.{CellReferenceIndex}
use Rattle.number_core.specs.Whole.{floor}
use Rattle.book_core.specs.Contents.{Contents}
use Rattle.grid_core.specs.declared.calc_result.CalcResult.{CalcResult}
use Rattle.result_core.specs.declared.found.Found.{Found}
use Rattle.position_core.specs.Check.{checked}
use Rattle.array_ops.specs.Sequence.{count_refused, sequence_answer}
use Rattle.argument_core.specs.Check.{after}
use Rattle.argument_core.specs.Count.{one_to_four}
use Rattle.argument_core.specs.Argument.{or_one}

abbrev pub unless_refused : {X : Type 0} → Option Error → X → Result X Error
unless_refused (Some e) x = Err e
unless_refused None x = Ok x

abbrev pub count_of : ℤ → Result ℤ Error
count_of number = unless_refused (count_refused (floor number)) (floor number)

abbrev pub count_in : Contents → CellReferenceIndex → Option Found → Result ℤ Error
count_in book cell found = after (or_one book cell found) count_of

abbrev pub unless_large : ℕ → ℤ → ℤ → Result (ℤ × ℤ) Error
unless_large limit rows columns = unless_refused (checked (unsigned_abs rows) (unsigned_abs columns) limit) (rows, columns)

abbrev pub size_of_sequence : Contents → ℕ → CellReferenceIndex → Option Found → Option Found → Result (ℤ × ℤ) Error
size_of_sequence book limit cell first second =
    after (count_in book cell first) (λ rows.
    after (count_in book cell second) (λ columns.
    unless_large limit rows columns))

abbrev pub sequence_call : Contents → ℕ → CellReferenceIndex → List Found → Result CalcResult Error
sequence_call book limit cell args =
    after (one_to_four args) (λ asked.
    after (size_of_sequence book limit cell (Some asked.first) asked.second) (λ size.
    after (or_one book cell asked.third) (λ start.
    after (or_one book cell asked.fourth) (λ step.
    Ok (sequence_answer size.0 size.1 start step limit cell)))))
