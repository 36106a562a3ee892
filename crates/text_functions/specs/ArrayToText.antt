-- ARRAYTOTEXT. The checks stand in their order.
--   form_in             whether the form is the strict one, 1, and not the loose one, 0; any other number is #VALUE!
--   value_text          a value as a text: an array by its elements, one value as an element, nothing for a missing one; an error is
--                       the answer
--   array_to_text_call
use Rattle.std.specs.Prelude.{ℕ, ℤ, pos, Bool, true, false, if◌then◌else◌, List, [], Option, Result, Ok, Err}
use Rattle.std.specs.Ordering.{int_eq}
use Rattle.value_core.specs.declared.array.ArrayNode.{ArrayNode}
use Rattle.value_core.specs.declared.array.ArrayNode.TheVariants as item
use Rattle.value_core.specs.declared.error.Error.{Error}
use Rattle.value_core.specs.declared.error.Error.TheVariants.{VALUE}
use Rattle.value_core.specs.declared.position.CellReferenceIndex.{CellReferenceIndex}
use Rattle.rectangle_core.specs.declared.value.Value.{Value}
use Rattle.rectangle_core.specs.declared.value.Value.TheVariants.{One, Missing, Grid}
use Rattle.book_core.specs.Contents.{Contents}
use Rattle.grid_core.specs.declared.calc_result.CalcResult.{CalcResult}
use Rattle.grid_core.specs.declared.calc_result.CalcResult.TheVariants as calc
use Rattle.result_core.specs.Finding.{value_found}
use Rattle.result_core.specs.declared.found.Found.{Found}
use Rattle.array_texts.specs.ArrayText.{array_text, element_text}
use Rattle.argument_core.specs.Check.{after}
use Rattle.argument_core.specs.Count.{one_or_two}
use Rattle.argument_core.specs.Argument.{floor_in, given_or}

abbrev pub strict_of : ℤ → Result Bool Error
strict_of number = if int_eq number (pos 0) then Ok false else (if int_eq number (pos 1) then Ok true else Err VALUE)

abbrev pub form_in : Contents → CellReferenceIndex → Option Found → Result Bool Error
form_in book cell found = after (given_or (floor_in book cell) (pos 0) found) strict_of

abbrev pub one_text : Bool → ArrayNode → Result (List ℕ) Error
one_text strict (item.Number number) = Ok (element_text strict (item.Number number))
one_text strict (item.Boolean value) = Ok (element_text strict (item.Boolean value))
one_text strict (item.String text) = Ok (element_text strict (item.String text))
one_text strict (item.Error e) = Err e
one_text strict item.Empty = Ok (element_text strict item.Empty)

abbrev pub value_text : Bool → Value → Result (List ℕ) Error
value_text strict (One element) = one_text strict element
value_text strict Missing = Ok []
value_text strict (Grid rows) = Ok (array_text strict rows)

abbrev pub string_of : List ℕ → Result CalcResult Error
string_of text = Ok (calc.String text)

abbrev pub array_to_text_call : Contents → CellReferenceIndex → List Found → Result CalcResult Error
array_to_text_call book cell args =
    after (one_or_two args) (λ asked.
    after (form_in book cell asked.second) (λ strict.
    after (value_text strict (value_found book cell asked.first)) string_of))
