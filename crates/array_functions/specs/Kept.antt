-- What is kept of an array: UNIQUE, FILTER, TOCOL, TOROW, TRIMRANGE. The checks stand in their order.
--   unique_call
--   if_nothing   FILTER's answer where nothing is kept: #CALC! without a third argument and where that is missing, else that argument,
--                where a range is read as an array
--   filter_call
--   is_mode      a number from 0 to 3
--   mode_in      that number of an argument, or a default without an argument; any other number is #VALUE!
--   flatten_call TOCOL as a column, TOROW as a row
--   to_column_call, to_row_call
--   trimmed      an array without blank rows and columns at its ends, by numbers beyond 32 bits as by the ends of these
--   trim_call
use Rattle.std.specs.Prelude.{ℤ, pos, int_le, Bool, true, false, ◌&&◌, if◌then◌else◌, List, Option, Some, None, Result, Ok, Err}
use Rattle.std.specs.Int.{saturate_signed, w32}
use Rattle.value_core.specs.declared.array.ArrayNode.{ArrayNode}
use Rattle.value_core.specs.declared.error.Error.{Error}
use Rattle.value_core.specs.declared.error.Error.TheVariants.{CALC, VALUE}
use Rattle.value_core.specs.declared.position.CellReferenceIndex.{CellReferenceIndex}
use Rattle.book_core.specs.Contents.{Contents}
use Rattle.grid_core.specs.declared.calc_result.CalcResult.{CalcResult}
use Rattle.grid_core.specs.declared.calc_result.CalcResult.TheVariants.{Array}
use Rattle.result_core.specs.Finding.{of_value, value_found}
use Rattle.result_core.specs.declared.found.Found.{Found}
use Rattle.kept_ops.specs.Filter.{filter_of}
use Rattle.kept_ops.specs.Flatten.{flatten_of}
use Rattle.kept_ops.specs.Trim.{trim_of}
use Rattle.kept_ops.specs.Unique.{unique_of}
use Rattle.kept_ops.specs.declared.filtering.Filtered.{Filtered}
use Rattle.kept_ops.specs.declared.filtering.Filtered.TheVariants.{Kept, Nothing, Wrong}
use Rattle.argument_core.specs.Check.{after}
use Rattle.argument_core.specs.Count.{one_to_three, two_or_three}
use Rattle.argument_core.specs.Argument.{array_in, given_or, int_in, is_missing, truth_in}

abbrev pub unique_call : Contents → CellReferenceIndex → List Found → Result CalcResult Error
unique_call book cell args =
    after (one_to_three args) (λ asked.
    after (array_in book cell asked.first) (λ array.
    after (given_or (truth_in book cell) false asked.second) (λ by_column.
    after (given_or (truth_in book cell) false asked.third) (λ exactly_once.
    Ok (unique_of cell by_column exactly_once array)))))

abbrev pub if_nothing : Contents → CellReferenceIndex → Option Found → Result CalcResult Error
if_nothing book cell (Some found) = if is_missing found then Err CALC else Ok (of_value cell (value_found book cell found))
if_nothing book cell None = Err CALC

abbrev pub filtered : Contents → CellReferenceIndex → Option Found → Filtered → Result CalcResult Error
filtered book cell third (Kept rows) = Ok (Array rows)
filtered book cell third Nothing = if_nothing book cell third
filtered book cell third (Wrong e) = Err e

abbrev pub filter_call : Contents → CellReferenceIndex → List Found → Result CalcResult Error
filter_call book cell args =
    after (two_or_three args) (λ asked.
    after (array_in book cell asked.first) (λ array.
    after (array_in book cell asked.second) (λ mask.
    filtered book cell asked.third (filter_of array mask))))

abbrev pub is_mode : ℤ → Bool
is_mode number = int_le (pos 0) number && int_le number (pos 3)

abbrev pub unless_other : ℤ → Result ℤ Error
unless_other number = if is_mode number then Ok number else Err VALUE

abbrev pub mode_in : Contents → CellReferenceIndex → ℤ → Option Found → Result ℤ Error
mode_in book cell default found = after (given_or (int_in book cell) default found) unless_other

abbrev pub flatten_call : Bool → Contents → CellReferenceIndex → List Found → Result CalcResult Error
flatten_call as_column book cell args =
    after (one_to_three args) (λ asked.
    after (array_in book cell asked.first) (λ array.
    after (mode_in book cell (pos 0) asked.second) (λ ignore.
    after (given_or (truth_in book cell) false asked.third) (λ by_column.
    Ok (flatten_of cell ignore by_column as_column array)))))

abbrev pub to_column_call : Contents → CellReferenceIndex → List Found → Result CalcResult Error
to_column_call = flatten_call true

abbrev pub to_row_call : Contents → CellReferenceIndex → List Found → Result CalcResult Error
to_row_call = flatten_call false

abbrev pub trimmed : CellReferenceIndex → ℤ → ℤ → List (List ArrayNode) → CalcResult
trimmed cell rows_mode columns_mode array = trim_of cell (saturate_signed w32 rows_mode) (saturate_signed w32 columns_mode) array

abbrev pub trim_call : Contents → CellReferenceIndex → List Found → Result CalcResult Error
trim_call book cell args =
    after (one_to_three args) (λ asked.
    after (array_in book cell asked.first) (λ array.
    after (given_or (int_in book cell) (pos 3) asked.second) (λ rows_mode.
    after (given_or (int_in book cell) (pos 3) asked.third) (λ columns_mode.
    Ok (trimmed cell rows_mode columns_mode array)))))
