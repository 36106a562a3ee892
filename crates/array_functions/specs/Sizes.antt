-- Arrays of another size: EXPAND, WRAPROWS, WRAPCOLS. The checks stand in their order; the last argument fills what is left.
--   expand_call
--   line_in, unless_block   an array of one row or one column, else #VALUE!
--   wrap_call      its elements in lines of so many
--   wrap_rows_call, wrap_columns_call
use Rattle.std.specs.Prelude.{ℕ, if◌then◌else◌, List, [], ◌∷◌, Result, Ok, Err}
use Rattle.value_core.specs.declared.array.ArrayNode.{ArrayNode}
use Rattle.value_core.specs.declared.error.Error.{Error}
use Rattle.value_core.specs.declared.error.Error.TheVariants.{VALUE}
use Rattle.value_core.specs.declared.position.CellReferenceIndex.{CellReferenceIndex}
use Rattle.rectangle_core.specs.Rectangle.{width}
use Rattle.book_core.specs.Contents.{Contents}
use Rattle.grid_core.specs.declared.calc_result.CalcResult.{CalcResult}
use Rattle.result_core.specs.declared.found.Found.{Found}
use Rattle.position_core.specs.Check.{is_line}
use Rattle.position_core.specs.declared.reshape.Reshape.{Reshape}
use Rattle.position_core.specs.declared.reshape.Reshape.TheVariants.{Expand, WrapRows, WrapColumns}
use Rattle.array_ops.specs.Reshaped.{reshaped_answer, size_of}
use Rattle.argument_core.specs.Check.{after}
use Rattle.argument_core.specs.Count.{two_or_three, two_to_four}
use Rattle.argument_core.specs.Argument.{array_in, given_or, pad_in, size_in}

abbrev pub expand_call : Contents → ℕ → CellReferenceIndex → List Found → Result CalcResult Error
expand_call book limit cell args =
    after (two_to_four args) (λ asked.
    after (array_in book cell asked.first) (λ array.
    after (size_in book cell asked.second) (λ rows.
    after (given_or (size_in book cell) (width array) asked.third) (λ columns.
    Ok (reshaped_answer (Expand rows columns) (array ∷ []) (pad_in book cell asked.fourth) limit cell)))))

abbrev pub unless_block : List (List ArrayNode) → Result (List (List ArrayNode)) Error
unless_block array = if is_line (size_of array) then Ok array else Err VALUE

abbrev pub line_in : Contents → CellReferenceIndex → Found → Result (List (List ArrayNode)) Error
line_in book cell found = after (array_in book cell found) unless_block

abbrev pub wrap_call : (ℕ → Reshape) → Contents → ℕ → CellReferenceIndex → List Found → Result CalcResult Error
wrap_call wrapper book limit cell args =
    after (two_or_three args) (λ asked.
    after (line_in book cell asked.first) (λ array.
    after (size_in book cell asked.second) (λ count.
    Ok (reshaped_answer (wrapper count) (array ∷ []) (pad_in book cell asked.third) limit cell))))

abbrev pub wrap_rows_call : Contents → ℕ → CellReferenceIndex → List Found → Result CalcResult Error
wrap_rows_call = wrap_call WrapRows

abbrev pub wrap_columns_call : Contents → ℕ → CellReferenceIndex → List Found → Result CalcResult Error
wrap_columns_call = wrap_call WrapColumns
