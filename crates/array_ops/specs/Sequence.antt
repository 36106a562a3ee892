-- SEQUENCE.
--   count_refused     the error of a number of rows or columns: #CALC! for none, #VALUE! below
--   first_of_two      the first of two errors
--   sequence_refused  the error of the first check that the numbers don't pass
--   sequence_grid     so many rows and columns of numbers, one row after another
--   sequence_answer   the error, or that array
use Rattle.std.specs.Prelude.{ℕ, ◌+◌, ◌*◌, ◌==◌, ℤ, pos, negsuc, unsigned_abs, if◌then◌else◌, List, Option, Some, None}
use Rattle.value_core.specs.declared.array.ArrayNode.{ArrayNode}
use Rattle.value_core.specs.declared.error.Error.{Error}
use Rattle.value_core.specs.declared.error.Error.TheVariants.{VALUE, CALC}
use Rattle.value_core.specs.declared.position.CellReferenceIndex.{CellReferenceIndex}
use Rattle.rectangle_core.specs.Rectangle.{rectangle}
use Rattle.position_core.specs.Check.{checked}
use Rattle.position_core.specs.Sequence.{sequence_element}
use Rattle.grid_core.specs.declared.calc_result.CalcResult.{CalcResult}
use Rattle.array_ops.specs.Reshaped.{answered}

abbrev pub count_refused : ℤ → Option Error
count_refused (pos n) = if n == 0 then Some CALC else None
count_refused (negsuc n) = Some VALUE

abbrev pub first_of_two : Option Error → Option Error → Option Error
first_of_two (Some e) other = Some e
first_of_two None other = other

abbrev pub sequence_refused : ℤ → ℤ → ℕ → Option Error
sequence_refused rows columns limit = first_of_two (count_refused rows) (first_of_two (count_refused columns) (checked (unsigned_abs rows) (unsigned_abs columns) limit))

abbrev pub sequence_grid : ℕ → ℕ → ℤ → ℤ → List (List ArrayNode)
sequence_grid rows columns start step = rectangle rows columns (λ i j. sequence_element (i * columns + j) start step)

abbrev pub sequence_answer : ℤ → ℤ → ℤ → ℤ → ℕ → CellReferenceIndex → CalcResult
sequence_answer rows columns start step limit cell = answered (sequence_refused rows columns limit) cell (sequence_grid (unsigned_abs rows) (unsigned_abs columns) start step)
