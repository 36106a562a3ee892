-- The answers of the functions of references fit the shapes of their calls.
--   reference_call   what a call of one of these functions answers
--   AnswerFits       an answer that is no error of a check is no larger than a shape
--   ReferencesFit    of each of these functions, in every cell of every book
use Rattle.std.specs.Prelude.{List, Result, Ok, Err, ⊤}
use Rattle.call_core.specs.declared.function.Function.{Function}
use Rattle.call_core.specs.declared.function.Function.TheVariants.{Index, Offset, Choose, Row, Rows, Column, Columns, Areas, Formulatext}
use Rattle.value_core.specs.declared.error.Error.{Error}
use Rattle.value_core.specs.declared.error.Error.TheVariants.{NIMPL}
use Rattle.value_core.specs.declared.position.CellReferenceIndex.{CellReferenceIndex}
use Rattle.book_core.specs.Contents.{Contents}
use Rattle.grid_core.specs.declared.calc_result.CalcResult.{CalcResult}
use Rattle.kind_table.specs.Fit.{Fits}
use Rattle.kind_table.specs.OwnRow.{own_row}
use Rattle.kind_table.specs.declared.shown.Shown.{Shown}
use Rattle.kind_table.specs.declared.static_result.StaticResult.{StaticResult}
use Rattle.result_core.specs.Finding.{value_of}
use Rattle.result_core.specs.declared.found.Found.{Found}
use Rattle.reference_functions.specs.Numbering.{column_call, row_call}
use Rattle.reference_functions.specs.Sizing.{areas_call, columns_call, rows_call}
use Rattle.reference_functions.specs.Offsetting.{offset_call}
use Rattle.reference_functions.specs.Formula.{formula_text_call}
use Rattle.reference_functions.specs.Indexing.{index_call}
use Rattle.reference_functions.specs.Choosing.{choose_call}
use Rattle.reference_fits.specs.Known.{AreKnown}

abbrev pub reference_call : Contents → CellReferenceIndex → Function → List Found → Result CalcResult Error
reference_call book cell Index args = index_call book cell args
reference_call book cell Offset args = offset_call book cell args
reference_call book cell Choose args = choose_call book cell args
reference_call book cell Row args = row_call cell args
reference_call book cell Rows args = rows_call args
reference_call book cell Column args = column_call cell args
reference_call book cell Columns args = columns_call args
reference_call book cell Areas args = areas_call book cell args
reference_call book cell Formulatext args = formula_text_call book args
reference_call book cell other args = Err NIMPL

abbrev pub AnswerFits : Contents → StaticResult → Result CalcResult Error → Type 0
AnswerFits book shape (Ok made) = Fits shape (value_of book made)
AnswerFits book shape (Err e) = ⊤

abbrev pub ReferencesFit : Type 0
ReferencesFit = (book : Contents) (cell : CellReferenceIndex) (kind : Function) (shows : List Shown) (shapes : List StaticResult) (args : List Found)
    → AreKnown book cell shows shapes args → AnswerFits book (own_row kind shows shapes) (reference_call book cell kind args)
