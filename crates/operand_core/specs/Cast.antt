-- The casts of elements and of values.
--   cast_to_number   a truth value is 1 or 0, a text what is read of it, a blank 0; an error is the answer
--   cast_to_bool     a number is true unless it is 0, a text is one of two words in any case of ASCII letters, a blank is false
--   cast_to_string   as it is written, `TRUE` and `FALSE`, nothing for a blank
--   cast_value       a value by the cast of its element: a missing one is a blank, a rectangle has no cast
--   element_of       a number or an error as an element
use Rattle.std.specs.Prelude.{ℕ, ℤ, pos, Bool, true, false, not, if◌then◌else◌, Option, Some, None, Result, Ok, Err, List, [], codes}
use Rattle.std.specs.Str.{str_eq_ignore_ascii_case}
use Rattle.value_core.specs.declared.array.ArrayNode.{ArrayNode}
use Rattle.value_core.specs.declared.array.ArrayNode.TheVariants.{Number, Boolean, String, Error as Wrong, Empty}
use Rattle.value_core.specs.declared.error.Error.{Error}
use Rattle.value_core.specs.declared.error.Error.TheVariants.{NIMPL, VALUE}
use Rattle.rectangle_core.specs.declared.value.Value.{Value}
use Rattle.rectangle_core.specs.declared.value.Value.TheVariants.{One, Missing, Grid}
use Rattle.number_core.specs.Number.{is_zero}
use Rattle.number_core.specs.NumberText.{number_text, read_number}

abbrev pub number_or_value : Option ℤ → Result ℤ Error
number_or_value (Some n) = Ok n
number_or_value None = Err VALUE

abbrev pub number_of_text : List ℕ → Result ℤ Error
number_of_text text = number_or_value (read_number text)

abbrev pub cast_to_number : ArrayNode → Result ℤ Error
cast_to_number (Number n) = Ok n
cast_to_number (Boolean b) = if b then Ok (pos 1000000) else Ok (pos 0)
cast_to_number (String text) = number_of_text text
cast_to_number (Wrong e) = Err e
cast_to_number Empty = Ok (pos 0)

abbrev pub truth_of_text : List ℕ → Result Bool Error
truth_of_text text = if str_eq_ignore_ascii_case text (codes "TRUE") then Ok true
    else (if str_eq_ignore_ascii_case text (codes "FALSE") then Ok false else Err VALUE)

abbrev pub cast_to_bool : ArrayNode → Result Bool Error
cast_to_bool (Number n) = Ok (not (is_zero n))
cast_to_bool (Boolean b) = Ok b
cast_to_bool (String text) = truth_of_text text
cast_to_bool (Wrong e) = Err e
cast_to_bool Empty = Ok false

abbrev pub truth_text : Bool → List ℕ
truth_text b = if b then codes "TRUE" else codes "FALSE"

abbrev pub cast_to_string : ArrayNode → Result (List ℕ) Error
cast_to_string (Number n) = Ok (number_text n)
cast_to_string (Boolean b) = Ok (truth_text b)
cast_to_string (String text) = Ok text
cast_to_string (Wrong e) = Err e
cast_to_string Empty = Ok []

abbrev pub cast_value : {X : Type 0} → (ArrayNode → Result X Error) → Value → Result X Error
cast_value cast (One element) = cast element
cast_value cast Missing = cast Empty
cast_value cast (Grid rows) = Err NIMPL

abbrev pub element_of : Result ℤ Error → ArrayNode
element_of (Ok n) = Number n
element_of (Err e) = Wrong e
