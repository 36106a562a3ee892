-- FORMULATEXT.
--   text_or_none        the text of a formula; #N/A without one
--   formula_in          that of the one cell of a range; #NIMPL! for more cells, #ERROR! where there is no range
--   formula_text_call
use Rattle.std.specs.Prelude.{ℕ, ◌==◌, ◌&&◌, if◌then◌else◌, List, Option, Some, None, Result, Ok, Err}
use Rattle.value_core.specs.declared.error.Error.{Error}
use Rattle.value_core.specs.declared.error.Error.TheVariants.{ERROR, NA, NIMPL}
use Rattle.book_core.specs.Contents.{Contents, line_count}
use Rattle.grid_core.specs.declared.calc_result.CalcResult.{CalcResult}
use Rattle.grid_core.specs.declared.calc_result.CalcResult.TheVariants as calc
use Rattle.result_core.specs.Finding.{with_reference}
use Rattle.result_core.specs.declared.found.Found.{Found}
use Rattle.argument_core.specs.Check.{after}
use Rattle.argument_core.specs.Count.{one}

abbrev pub text_or_none : Option (List ℕ) → Result CalcResult Error
text_or_none (Some text) = Ok (calc.String text)
text_or_none None = Err NA

abbrev pub formula_in : Contents → CalcResult → Result CalcResult Error
formula_in book (calc.Range left right) =
    if line_count left.row right.row == 1 && line_count left.column right.column == 1 then text_or_none (book.formula left) else Err NIMPL
formula_in book other = Err ERROR

abbrev pub formula_text_call : Contents → List Found → Result CalcResult Error
formula_text_call book args = after (one args) (λ found. formula_in book (with_reference found))
