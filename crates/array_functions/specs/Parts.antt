-- Parts of an array: TAKE, DROP, CHOOSECOLS, CHOOSEROWS; and TRANSPOSE. The checks stand in their order.
--   unless_zero                      a number of lines that are kept; none is #CALC!
--   count_in                         that number of an argument
--   take_call, drop_call             the first or last rows and columns, or all others
--   unless_none                      a number that names one of so many lines, else #VALUE!
--   choice_in                        that number of an argument
--   choose_call                      lines by their numbers
--   choose_columns_call, choose_rows_call, transpose_call
use Rattle.std.specs.Prelude.{ℕ, ℤ, if◌then◌else◌, List, [], ◌∷◌, Result, Ok, Err}
use Rattle.value_core.specs.declared.array.ArrayNode.{ArrayNode}
use Rattle.value_core.specs.declared.error.Error.{Error}
use Rattle.value_core.specs.declared.error.Error.TheVariants.{CALC, VALUE}
use Rattle.value_core.specs.declared.position.CellReferenceIndex.{CellReferenceIndex}
use Rattle.rectangle_core.specs.Rectangle.{height, width}
use Rattle.book_core.specs.Contents.{Contents}
use Rattle.grid_core.specs.declared.calc_result.CalcResult.{CalcResult}
use Rattle.grid_core.specs.declared.calc_result.CalcResult.TheVariants.{Array}
use Rattle.result_core.specs.declared.found.Found.{Found}
use Rattle.position_core.specs.Axis.{is_choice}
use Rattle.position_core.specs.Check.{is_zero}
use Rattle.position_core.specs.declared.reshape.Reshape.{Reshape}
use Rattle.position_core.specs.declared.reshape.Reshape.TheVariants.{Take, DropOff, Transpose, ChooseColumns, ChooseRows}
use Rattle.array_ops.specs.Reshaped.{not_available, plain_answer, reshaped_grid}
use Rattle.argument_core.specs.Check.{after, each}
use Rattle.argument_core.specs.Count.{one, two_or_three, at_least_two}
use Rattle.argument_core.specs.Argument.{array_in, given_if, int_in}

abbrev pub unless_zero : ℤ → Result ℤ Error
unless_zero count = if is_zero count then Err CALC else Ok count

abbrev pub count_in : Contents → CellReferenceIndex → Found → Result ℤ Error
count_in book cell found = after (int_in book cell found) unless_zero

abbrev pub take_call : Contents → CellReferenceIndex → List Found → Result CalcResult Error
take_call book cell args =
    after (two_or_three args) (λ asked.
    after (array_in book cell asked.first) (λ array.
    after (count_in book cell asked.second) (λ rows.
    after (given_if (count_in book cell) asked.third) (λ columns.
    Ok (plain_answer (Take rows columns) array cell)))))

abbrev pub drop_call : Contents → CellReferenceIndex → List Found → Result CalcResult Error
drop_call book cell args =
    after (two_or_three args) (λ asked.
    after (array_in book cell asked.first) (λ array.
    after (int_in book cell asked.second) (λ rows.
    after (given_if (int_in book cell) asked.third) (λ columns.
    Ok (plain_answer (DropOff rows columns) array cell)))))

abbrev pub unless_none : ℕ → ℤ → Result ℤ Error
unless_none total number = if is_choice number total then Ok number else Err VALUE

abbrev pub choice_in : Contents → CellReferenceIndex → ℕ → Found → Result ℤ Error
choice_in book cell total found = after (int_in book cell found) (unless_none total)

abbrev pub choose_call : (List (List ArrayNode) → ℕ) → (List ℤ → Reshape) → Contents → CellReferenceIndex → List Found → Result CalcResult Error
choose_call total chooser book cell args =
    after (at_least_two args) (λ asked.
    after (array_in book cell asked.0) (λ array.
    after (each (choice_in book cell (total array)) asked.1) (λ numbers.
    Ok (plain_answer (chooser numbers) array cell))))

abbrev pub choose_columns_call : Contents → CellReferenceIndex → List Found → Result CalcResult Error
choose_columns_call = choose_call width ChooseColumns

abbrev pub choose_rows_call : Contents → CellReferenceIndex → List Found → Result CalcResult Error
choose_rows_call = choose_call height ChooseRows

abbrev pub transpose_call : Contents → CellReferenceIndex → List Found → Result CalcResult Error
transpose_call book cell args =
    after (one args) (λ found.
    after (array_in book cell found) (λ array.
    Ok (Array (reshaped_grid Transpose (array ∷ []) not_available))))
