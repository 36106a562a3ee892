-- CHOOSE.
--   place_of         which choice a number names, counted from 0: the first has number 1; numbers are cut toward zero
--   place_named      which choice an element names; the error of its cast, and #VALUE! below 1
--   choice_at        the choice at a place; #VALUE! past the last one
--   choice_by        the choice that an element names
--   met_element      the value of the cell that `@` finds, #REF! where it finds none
--   single_element   a choice with reference as one element: a range by the cell that `@` finds in it, an array by its first
--                    element, a blank or missing one as a blank
--   element_at_place   the choice at a place as one element; an error as itself
--   chosen_element   what stands in place of an element of the condition; chosen_rows, of all its elements
--   chosen_alone     the choice that one value names, with reference
--   choose_in        by the value of the condition: one element gives a choice with reference, a missing one counts as 0; a
--                    rectangle gives a rectangle of what its elements choose
--   choose_call
use Rattle.std.specs.Prelude.{ℕ, ◌-◌, ◌==◌, if◌then◌else◌, List, Option, Some, None, slice_get, Result, Ok, Err}
use Rattle.std.specs.Int.{saturate_unsigned, w64}
use Rattle.value_core.specs.declared.array.ArrayNode.{ArrayNode}
use Rattle.value_core.specs.declared.array.ArrayNode.TheVariants as item
use Rattle.value_core.specs.declared.error.Error.{Error}
use Rattle.value_core.specs.declared.error.Error.TheVariants.{REF, VALUE}
use Rattle.value_core.specs.declared.position.CellReferenceIndex.{CellReferenceIndex}
use Rattle.rectangle_core.specs.Rectangle.{element_at, height, or_blank, rectangle, width}
use Rattle.rectangle_core.specs.declared.value.Value.{Value}
use Rattle.rectangle_core.specs.declared.value.Value.TheVariants.{One, Missing, Grid}
use Rattle.number_core.specs.Whole.{trunc}
use Rattle.operand_core.specs.Cast.{cast_to_number}
use Rattle.book_core.specs.Contents.{Contents}
use Rattle.book_core.specs.Meeting.{meets}
use Rattle.grid_core.specs.declared.calc_result.CalcResult.{CalcResult}
use Rattle.grid_core.specs.declared.calc_result.CalcResult.TheVariants as calc
use Rattle.result_core.specs.Finding.{value_found, with_reference}
use Rattle.result_core.specs.Intersection.{first_of}
use Rattle.result_core.specs.declared.found.Found.{Found}
use Rattle.argument_core.specs.Check.{after}
use Rattle.argument_core.specs.Count.{at_least_two}

abbrev pub place_of : ℕ → Result ℕ Error
place_of number = if number == 0 then Err VALUE else Ok (number - 1)

abbrev pub place_named : ArrayNode → Result ℕ Error
place_named element = after (cast_to_number element) (λ number. place_of (saturate_unsigned w64 (trunc number)))

abbrev pub or_value_error : Option Found → Result Found Error
or_value_error (Some found) = Ok found
or_value_error None = Err VALUE

abbrev pub choice_at : List Found → ℕ → Result Found Error
choice_at choices place = or_value_error (slice_get choices place)

abbrev pub choice_by : List Found → ArrayNode → Result Found Error
choice_by choices element = after (place_named element) (choice_at choices)

abbrev pub met_element : Contents → Option CellReferenceIndex → ArrayNode
met_element book (Some at) = book.value at
met_element book None = item.Error REF

abbrev pub single_element : Contents → CellReferenceIndex → CalcResult → ArrayNode
single_element book cell (calc.Number number) = item.Number number
single_element book cell (calc.Boolean value) = item.Boolean value
single_element book cell (calc.String text) = item.String text
single_element book cell (calc.Error e origin) = item.Error e
single_element book cell (calc.Range left right) = met_element book (meets cell left right)
single_element book cell (calc.Array rows) = first_of rows
single_element book cell calc.EmptyCell = item.Empty
single_element book cell calc.EmptyArg = item.Empty

abbrev pub element_of_choice : Contents → CellReferenceIndex → Result Found Error → ArrayNode
element_of_choice book cell (Ok found) = single_element book cell (with_reference found)
element_of_choice book cell (Err e) = item.Error e

abbrev pub element_at_place : Contents → CellReferenceIndex → List Found → ℕ → ArrayNode
element_at_place book cell choices place = element_of_choice book cell (choice_at choices place)

abbrev pub chosen_element : Contents → CellReferenceIndex → List Found → ArrayNode → ArrayNode
chosen_element book cell choices element = element_of_choice book cell (choice_by choices element)

abbrev pub chosen_rows : Contents → CellReferenceIndex → List Found → List (List ArrayNode) → List (List ArrayNode)
chosen_rows book cell choices rows =
    rectangle (height rows) (width rows) (λ i j. chosen_element book cell choices (or_blank (element_at rows i j)))

abbrev pub chosen_alone : List Found → ArrayNode → Result CalcResult Error
chosen_alone choices element = after (choice_by choices element) (λ found. Ok (with_reference found))

abbrev pub choose_in : Contents → CellReferenceIndex → List Found → Value → Result CalcResult Error
choose_in book cell choices (One element) = chosen_alone choices element
choose_in book cell choices Missing = Err VALUE
choose_in book cell choices (Grid rows) = Ok (calc.Array (chosen_rows book cell choices rows))

abbrev pub choose_call : Contents → CellReferenceIndex → List Found → Result CalcResult Error
choose_call book cell args = after (at_least_two args) (λ asked. choose_in book cell asked.1 (value_found book cell asked.0))
