-- ADDRESS. The checks stand in their order.
--   line_in        a row or a column, which begin at 1; a lesser number is #VALUE!
--   style_in       a style from 1 to 4, or 1 without an argument; any other number is #VALUE!
--   text_if        the text of an argument if there is one
--   addressed      the text of a cell; numbers beyond 32 bits count as the ends of these
--   address_call
use Rattle.std.specs.Prelude.{ℕ, ℤ, pos, int_le, Bool, true, ◌&&◌, if◌then◌else◌, List, Option, Some, None, Result, Ok, Err}
use Rattle.std.specs.Int.{saturate_signed, w32}
use Rattle.value_core.specs.declared.error.Error.{Error}
use Rattle.value_core.specs.declared.error.Error.TheVariants.{VALUE}
use Rattle.value_core.specs.declared.position.CellReferenceIndex.{CellReferenceIndex}
use Rattle.book_core.specs.Contents.{Contents}
use Rattle.grid_core.specs.declared.calc_result.CalcResult.{CalcResult}
use Rattle.grid_core.specs.declared.calc_result.CalcResult.TheVariants.{String}
use Rattle.result_core.specs.declared.found.Found.{Found}
use Rattle.address_core.specs.Address.{address_text}
use Rattle.argument_core.specs.Check.{after}
use Rattle.argument_core.specs.Count.{two_to_five}
use Rattle.argument_core.specs.Argument.{given_if, given_or, int_in, text_in, truth_in}

abbrev pub unless_below_one : ℤ → Result ℤ Error
unless_below_one number = if int_le (pos 1) number then Ok number else Err VALUE

abbrev pub line_in : Contents → CellReferenceIndex → Found → Result ℤ Error
line_in book cell found = after (int_in book cell found) unless_below_one

abbrev pub unless_no_style : ℤ → Result ℤ Error
unless_no_style number = if int_le (pos 1) number && int_le number (pos 4) then Ok number else Err VALUE

abbrev pub style_in : Contents → CellReferenceIndex → Option Found → Result ℤ Error
style_in book cell found = after (given_or (int_in book cell) (pos 1) found) unless_no_style

abbrev pub text_if : Contents → CellReferenceIndex → Option Found → Result (Option (List ℕ)) Error
text_if book cell found = given_if (text_in book cell) found

abbrev pub string_or_value : Option (List ℕ) → Result CalcResult Error
string_or_value (Some text) = Ok (String text)
string_or_value None = Err VALUE

abbrev pub addressed : ℤ → ℤ → ℤ → Bool → Option (List ℕ) → Result CalcResult Error
addressed row column style a1 sheet = string_or_value (address_text (saturate_signed w32 row) (saturate_signed w32 column) (saturate_signed w32 style) a1 sheet)

abbrev pub address_at : Contents → CellReferenceIndex → ℤ → ℤ → ℤ → Option Found → Option Found → Result CalcResult Error
address_at book cell row column style fourth fifth =
    after (given_or (truth_in book cell) true fourth) (λ a1.
    after (text_if book cell fifth) (λ sheet.
    addressed row column style a1 sheet))

abbrev pub address_call : Contents → CellReferenceIndex → List Found → Result CalcResult Error
address_call book cell args =
    after (two_to_five args) (λ asked.
    after (line_in book cell asked.first) (λ row.
    after (line_in book cell asked.second) (λ column.
    after (style_in book cell asked.third) (λ style.
    address_at book cell row column style asked.fourth asked.fifth))))
