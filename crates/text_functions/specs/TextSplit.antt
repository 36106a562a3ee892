-- TEXTSPLIT. The checks stand in their order.
--   delimiters_in       the delimiters that an argument is: a text, a number's text, nothing for a blank or missing one; of an array each
--                       of its elements, one row after another. A truth value, and an error within an array, is #VALUE!; an error is the answer
--   column_delimiters   those of columns; an empty one is #VALUE!
--   row_delimiters      those of rows, without the empty ones; none without an argument
--   both_delimiters     the two lists; #VALUE! where both have none
--   is_blind            whether the case of ASCII letters is not looked at: where a number is given and isn't 0
--   split_pad           what fills a row that is shorter than the longest: a number, truth value, text or error, else #N/A
--   text_split_call     the pieces; #VALUE! where there is none
use Rattle.std.specs.Prelude.{ℕ, ◌==◌, ℤ, Bool, true, false, not, ◌&&◌, if◌then◌else◌, List, [], ◌∷◌, ◌++◌, length, Option, Some, None, Result, Ok, Err}
use Rattle.std.specs.List.{filter, flat_map}
use Rattle.value_core.specs.declared.array.ArrayNode.{ArrayNode}
use Rattle.value_core.specs.declared.array.ArrayNode.TheVariants as item
use Rattle.value_core.specs.declared.error.Error.{Error}
use Rattle.value_core.specs.declared.error.Error.TheVariants.{NA, VALUE}
use Rattle.value_core.specs.declared.position.CellReferenceIndex.{CellReferenceIndex}
use Rattle.number_core.specs.Number.{is_zero}
use Rattle.number_core.specs.NumberText.{number_text}
use Rattle.rectangle_core.specs.declared.value.Value.{Value}
use Rattle.rectangle_core.specs.declared.value.Value.TheVariants.{One, Missing, Grid}
use Rattle.book_core.specs.Contents.{Contents}
use Rattle.grid_core.specs.declared.calc_result.CalcResult.{CalcResult}
use Rattle.grid_core.specs.declared.calc_result.CalcResult.TheVariants as calc
use Rattle.result_core.specs.Finding.{in_context, value_found}
use Rattle.result_core.specs.declared.found.Found.{Found}
use Rattle.split_core.specs.Pieces.{none_empty}
use Rattle.split_core.specs.Split.{split_text, stays}
use Rattle.argument_core.specs.Check.{after}
use Rattle.argument_core.specs.Count.{two_to_six}
use Rattle.argument_core.specs.Argument.{given_if, given_or, number_in, text_in, truth_in}

-- behind other delimiters, those of an element of an array
abbrev pub delimiter_behind : List (List ℕ) → ArrayNode → Result (List (List ℕ)) Error
delimiter_behind texts (item.Number number) = Ok (texts ++ number_text number ∷ [])
delimiter_behind texts (item.Boolean value) = Err VALUE
delimiter_behind texts (item.String text) = Ok (texts ++ text ∷ [])
delimiter_behind texts (item.Error e) = Err VALUE
delimiter_behind texts item.Empty = Ok texts

abbrev pub delimiters_behind : List (List ℕ) → List ArrayNode → Result (List (List ℕ)) Error
delimiters_behind texts [] = Ok texts
delimiters_behind texts (element ∷ elements) = after (delimiter_behind texts element) (λ more. delimiters_behind more elements)

abbrev pub one_delimiter : ArrayNode → Result (List (List ℕ)) Error
one_delimiter (item.Number number) = delimiter_behind [] (item.Number number)
one_delimiter (item.Boolean value) = delimiter_behind [] (item.Boolean value)
one_delimiter (item.String text) = delimiter_behind [] (item.String text)
one_delimiter (item.Error e) = Err e
one_delimiter item.Empty = delimiter_behind [] item.Empty

abbrev pub delimiters_of : Value → Result (List (List ℕ)) Error
delimiters_of (One element) = one_delimiter element
delimiters_of Missing = Ok []
delimiters_of (Grid rows) = delimiters_behind [] (flat_map (λ row. row) rows)

abbrev pub delimiters_in : Contents → CellReferenceIndex → Found → Result (List (List ℕ)) Error
delimiters_in book cell found = delimiters_of (value_found book cell found)

abbrev pub unless_empty : List (List ℕ) → Result (List (List ℕ)) Error
unless_empty texts = if none_empty texts then Ok texts else Err VALUE

abbrev pub column_delimiters : Contents → CellReferenceIndex → Found → Result (List (List ℕ)) Error
column_delimiters book cell found = after (delimiters_in book cell found) unless_empty

abbrev pub without_empty : List (List ℕ) → Result (List (List ℕ)) Error
without_empty texts = Ok (filter (stays true) texts)

abbrev pub row_delimiters : Contents → CellReferenceIndex → Option Found → Result (List (List ℕ)) Error
row_delimiters book cell (Some found) = after (delimiters_in book cell found) without_empty
row_delimiters book cell None = Ok []

abbrev pub unless_none : List (List ℕ) → List (List ℕ) → Result (List (List ℕ) × List (List ℕ)) Error
unless_none columns rows = if length columns == 0 && length rows == 0 then Err VALUE else Ok (columns, rows)

abbrev pub both_delimiters : Contents → CellReferenceIndex → Found → Option Found → Result (List (List ℕ) × List (List ℕ)) Error
both_delimiters book cell second third =
    after (column_delimiters book cell second) (λ columns.
    after (row_delimiters book cell third) (λ rows.
    unless_none columns rows))

abbrev pub is_given : Option ℤ → Bool
is_given (Some number) = not (is_zero number)
is_given None = false

abbrev pub blind_of : Option ℤ → Result Bool Error
blind_of number = Ok (is_given number)

abbrev pub is_blind : Contents → CellReferenceIndex → Option Found → Result Bool Error
is_blind book cell found = after (given_if (number_in book cell) found) blind_of

abbrev pub pad_of : CalcResult → ArrayNode
pad_of (calc.Number number) = item.Number number
pad_of (calc.Boolean value) = item.Boolean value
pad_of (calc.String text) = item.String text
pad_of (calc.Error e origin) = item.Error e
pad_of (calc.Range left right) = item.Error NA
pad_of (calc.Array rows) = item.Error NA
pad_of calc.EmptyCell = item.Error NA
pad_of calc.EmptyArg = item.Error NA

abbrev pub split_pad : Contents → CellReferenceIndex → Option Found → ArrayNode
split_pad book cell (Some found) = pad_of (in_context book cell found)
split_pad book cell None = item.Error NA

abbrev pub array_or_value : Option (List (List ArrayNode)) → Result CalcResult Error
array_or_value (Some rows) = Ok (calc.Array rows)
array_or_value None = Err VALUE

abbrev pub split_by : Contents → CellReferenceIndex → List ℕ → List (List ℕ) × List (List ℕ) → Option Found → Option Found → Option Found → Result CalcResult Error
split_by book cell text delimiters fourth fifth sixth =
    after (given_or (truth_in book cell) false fourth) (λ ignore_empty.
    after (is_blind book cell fifth) (λ blind.
    array_or_value (split_text text delimiters.0 delimiters.1 ignore_empty blind (split_pad book cell sixth))))

abbrev pub text_split_call : Contents → CellReferenceIndex → List Found → Result CalcResult Error
text_split_call book cell args =
    after (two_to_six args) (λ asked.
    after (text_in book cell asked.first) (λ text.
    after (both_delimiters book cell asked.second asked.third) (λ delimiters.
    split_by book cell text delimiters asked.fourth asked.fifth asked.sixth)))
