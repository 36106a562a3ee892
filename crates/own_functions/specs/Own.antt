-- Calls of the kinds with rules of their own, over what their arguments came to.
--   own_call     what a call answers, or the error of the first check that fails. A kind without values here is #NIMPL!
--   call_result  the answer; an error comes from the formula's cell
--   own_result   the answer of such a call
--   own_found    what it comes to, in context and with reference alike
use Rattle.std.specs.Prelude.{ℕ, List, Result, Ok, Err}
use Rattle.call_core.specs.declared.function.Function.{Function}
use Rattle.call_core.specs.declared.function.Function.TheVariants.{Unique, Filter, Take, Drop, Expand, Hstack, Vstack, Choosecols, Chooserows, Tocol, Torow, Transpose, Trimrange, Wrapcols, Wraprows, Sequence, Index, Offset, Choose, Row, Rows, Column, Columns, Indirect, Address, Areas, Formulatext, Arraytotext, Textsplit}
use Rattle.value_core.specs.declared.error.Error.{Error}
use Rattle.value_core.specs.declared.error.Error.TheVariants.{NIMPL}
use Rattle.value_core.specs.declared.position.CellReferenceIndex.{CellReferenceIndex}
use Rattle.book_core.specs.Contents.{Contents}
use Rattle.grid_core.specs.declared.calc_result.CalcResult.{CalcResult}
use Rattle.result_core.specs.Finding.{wrong}
use Rattle.result_core.specs.declared.found.Found.{Found}
use Rattle.result_core.specs.declared.found.Found.TheVariants.{Same}
use Rattle.array_functions.specs.Kept.{filter_call, to_column_call, to_row_call, trim_call, unique_call}
use Rattle.array_functions.specs.Parts.{choose_columns_call, choose_rows_call, drop_call, take_call, transpose_call}
use Rattle.array_functions.specs.Progression.{sequence_call}
use Rattle.array_functions.specs.Sizes.{expand_call, wrap_columns_call, wrap_rows_call}
use Rattle.array_functions.specs.Stacks.{hstack_call, vstack_call}
use Rattle.reference_functions.specs.Choosing.{choose_call}
use Rattle.reference_functions.specs.Formula.{formula_text_call}
use Rattle.reference_functions.specs.Indexing.{index_call}
use Rattle.reference_functions.specs.Numbering.{column_call, row_call}
use Rattle.reference_functions.specs.Offsetting.{offset_call}
use Rattle.reference_functions.specs.Sizing.{areas_call, columns_call, rows_call}
use Rattle.text_functions.specs.Address.{address_call}
use Rattle.text_functions.specs.ArrayToText.{array_to_text_call}
use Rattle.text_functions.specs.Indirect.{indirect_call}
use Rattle.text_functions.specs.TextSplit.{text_split_call}

abbrev pub own_call : Contents → ℕ → CellReferenceIndex → Function → List Found → Result CalcResult Error
own_call book limit cell Unique args = unique_call book cell args
own_call book limit cell Filter args = filter_call book cell args
own_call book limit cell Take args = take_call book cell args
own_call book limit cell Drop args = drop_call book cell args
own_call book limit cell Expand args = expand_call book limit cell args
own_call book limit cell Hstack args = hstack_call book cell args
own_call book limit cell Vstack args = vstack_call book cell args
own_call book limit cell Choosecols args = choose_columns_call book cell args
own_call book limit cell Chooserows args = choose_rows_call book cell args
own_call book limit cell Tocol args = to_column_call book cell args
own_call book limit cell Torow args = to_row_call book cell args
own_call book limit cell Transpose args = transpose_call book cell args
own_call book limit cell Trimrange args = trim_call book cell args
own_call book limit cell Wrapcols args = wrap_columns_call book limit cell args
own_call book limit cell Wraprows args = wrap_rows_call book limit cell args
own_call book limit cell Sequence args = sequence_call book limit cell args
own_call book limit cell Index args = index_call book cell args
own_call book limit cell Offset args = offset_call book cell args
own_call book limit cell Choose args = choose_call book cell args
own_call book limit cell Row args = row_call cell args
own_call book limit cell Rows args = rows_call args
own_call book limit cell Column args = column_call cell args
own_call book limit cell Columns args = columns_call args
own_call book limit cell Areas args = areas_call book cell args
own_call book limit cell Formulatext args = formula_text_call book args
own_call book limit cell Indirect args = indirect_call book cell args
own_call book limit cell Address args = address_call book cell args
own_call book limit cell Arraytotext args = array_to_text_call book cell args
own_call book limit cell Textsplit args = text_split_call book cell args
own_call book limit cell other args = Err NIMPL

abbrev pub call_result : CellReferenceIndex → Result CalcResult Error → CalcResult
call_result cell (Ok made) = made
call_result cell (Err e) = wrong cell e

abbrev pub own_result : Contents → ℕ → CellReferenceIndex → Function → List Found → CalcResult
own_result book limit cell kind args = call_result cell (own_call book limit cell kind args)

abbrev pub own_found : Contents → ℕ → CellReferenceIndex → Function → List Found → Found
own_found book limit cell kind args = Same (own_result book limit cell kind args)
