-- One argument, by what it came to. An error that it is, or that its cast has, is the answer of the call.
--   array_in       a rectangle
--   number_in      a number, in millionths
--   truth_in       a truth value
--   text_in        a text
--   int_in         the whole number of a number, cut toward zero
--   size_in        the same, and at least 0
--   floor_in       the greatest whole number that isn't above a number
--   given_or       what a cast makes of an argument, or a default without one
--   given_if       what it makes of an argument, if there is one
--   is_missing     an argument whose value is missing
--   or_one         a number; 1 for an absent or missing argument
--   pad_of         a result as the element that fills what is left: a blank or missing one is 0, a range or array #VALUE!
--   pad_in         that element of an argument in context; #N/A without one
use Rattle.std.specs.Prelude.{ℕ, ℤ, pos, Bool, true, false, if◌then◌else◌, List, Option, Some, None, Result, Ok, Err}
use Rattle.std.specs.Int.{saturate_unsigned, w64}
use Rattle.value_core.specs.declared.array.ArrayNode.{ArrayNode}
use Rattle.value_core.specs.declared.array.ArrayNode.TheVariants as item
use Rattle.value_core.specs.declared.error.Error.{Error}
use Rattle.value_core.specs.declared.error.Error.TheVariants.{VALUE, NA}
use Rattle.value_core.specs.declared.position.CellReferenceIndex.{CellReferenceIndex}
use Rattle.number_core.specs.Whole.{floor, trunc}
use Rattle.operand_core.specs.Cast.{cast_to_bool, cast_to_number, cast_to_string}
use Rattle.book_core.specs.Contents.{Contents}
use Rattle.grid_core.specs.declared.calc_result.CalcResult.{CalcResult}
use Rattle.grid_core.specs.declared.calc_result.CalcResult.TheVariants as calc
use Rattle.result_core.specs.Finding.{array_of, in_context}
use Rattle.result_core.specs.Single.{cast_found}
use Rattle.result_core.specs.declared.found.Found.{Found}
use Rattle.result_core.specs.declared.found.Found.TheVariants.{Cell, Same}
use Rattle.argument_core.specs.Check.{after}

abbrev pub array_in : Contents → CellReferenceIndex → Found → Result (List (List ArrayNode)) Error
array_in book cell found = array_of book (in_context book cell found)

abbrev pub number_in : Contents → CellReferenceIndex → Found → Result ℤ Error
number_in = cast_found cast_to_number

abbrev pub truth_in : Contents → CellReferenceIndex → Found → Result Bool Error
truth_in = cast_found cast_to_bool

abbrev pub text_in : Contents → CellReferenceIndex → Found → Result (List ℕ) Error
text_in = cast_found cast_to_string

abbrev pub int_of : ℤ → Result ℤ Error
int_of number = Ok (trunc number)

abbrev pub int_in : Contents → CellReferenceIndex → Found → Result ℤ Error
int_in book cell found = after (number_in book cell found) int_of

abbrev pub size_of : ℤ → Result ℕ Error
size_of number = Ok (saturate_unsigned w64 (trunc number))

abbrev pub size_in : Contents → CellReferenceIndex → Found → Result ℕ Error
size_in book cell found = after (number_in book cell found) size_of

abbrev pub floor_of : ℤ → Result ℤ Error
floor_of number = Ok (floor number)

abbrev pub floor_in : Contents → CellReferenceIndex → Found → Result ℤ Error
floor_in book cell found = after (number_in book cell found) floor_of

abbrev pub given_or : {X : Type 0} → (Found → Result X Error) → X → Option Found → Result X Error
given_or cast default (Some found) = cast found
given_or cast default None = Ok default

abbrev pub some_of : {X : Type 0} → X → Result (Option X) Error
some_of x = Ok (Some x)

abbrev pub given_if : {X : Type 0} → (Found → Result X Error) → Option Found → Result (Option X) Error
given_if cast (Some found) = after (cast found) some_of
given_if cast None = Ok None

abbrev pub is_missing_result : CalcResult → Bool
is_missing_result calc.EmptyArg = true
is_missing_result other = false

abbrev pub is_missing : Found → Bool
is_missing (Cell at) = false
is_missing (Same result) = is_missing_result result

abbrev pub or_one : Contents → CellReferenceIndex → Option Found → Result ℤ Error
or_one book cell (Some found) = if is_missing found then Ok (pos 1000000) else number_in book cell found
or_one book cell None = Ok (pos 1000000)

abbrev pub pad_of : CalcResult → ArrayNode
pad_of (calc.Number n) = item.Number n
pad_of (calc.Boolean b) = item.Boolean b
pad_of (calc.String text) = item.String text
pad_of (calc.Error e origin) = item.Error e
pad_of (calc.Range left right) = item.Error VALUE
pad_of (calc.Array rows) = item.Error VALUE
pad_of calc.EmptyCell = item.Number (pos 0)
pad_of calc.EmptyArg = item.Number (pos 0)

abbrev pub pad_in : Contents → CellReferenceIndex → Option Found → ArrayNode
pad_in book cell (Some found) = pad_of (in_context book cell found)
pad_in book cell None = item.Error NA
