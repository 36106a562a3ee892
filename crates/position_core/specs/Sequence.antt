-- SEQUENCE, by index from 0.
--   steps_from        a number and so many steps
--   number_or_error   a number as an element, or the error
--   sequence_element  the element with this index; #NUM! out of range
use Rattle.std.specs.Prelude.{ℕ, ℤ, pos, ◌+ℤ◌, ◌*ℤ◌, Result, Ok, Err}
use Rattle.value_core.specs.declared.array.ArrayNode.{ArrayNode}
use Rattle.value_core.specs.declared.array.ArrayNode.TheVariants.{Number, Error as Wrong}
use Rattle.value_core.specs.declared.error.Error.{Error}
use Rattle.number_core.specs.Number.{in_range}

abbrev pub steps_from : ℕ → ℤ → ℤ → ℤ
steps_from index start step = start +ℤ (pos index *ℤ step)

abbrev pub number_or_error : Result ℤ Error → ArrayNode
number_or_error (Ok number) = Number number
number_or_error (Err error) = Wrong error

abbrev pub sequence_element : ℕ → ℤ → ℤ → ArrayNode
sequence_element index start step = number_or_error (in_range (steps_from index start step))
