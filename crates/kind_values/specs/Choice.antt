-- A choice between two values by a condition.
--   chosen_at    the element of the chosen side at a place; #N/A where the condition or that side has none, and the error
--                of a condition's cast in its place
--   chosen_over  the same over rectangles, each repeated to the greatest size
--   choice       the chosen value, where the condition is a single one; a value that is missing counts as 0
use Rattle.std.specs.Prelude.{pos, max, Bool, true, false, Option, Some, None, Result, Ok, Err, List}
use Rattle.value_core.specs.declared.array.ArrayNode.{ArrayNode}
use Rattle.value_core.specs.declared.array.ArrayNode.TheVariants.{Number, Error as Wrong}
use Rattle.value_core.specs.declared.error.Error.{Error}
use Rattle.value_core.specs.declared.error.Error.TheVariants.{NA}
use Rattle.rectangle_core.specs.Rectangle.{rectangle, height, width}
use Rattle.rectangle_core.specs.declared.value.Value.{Value}
use Rattle.rectangle_core.specs.declared.value.Value.TheVariants.{One, Missing, Grid}
use Rattle.operand_core.specs.Cast.{cast_to_bool, cast_value}
use Rattle.operand_core.specs.Side.{side, spread}

abbrev pub or_not_available : Option ArrayNode → ArrayNode
or_not_available (Some element) = element
or_not_available None = Wrong NA

abbrev pub by_truth : Result Bool Error → Option ArrayNode → Option ArrayNode → ArrayNode
by_truth (Ok true) first second = or_not_available first
by_truth (Ok false) first second = or_not_available second
by_truth (Err e) first second = Wrong e

abbrev pub chosen_at : Option ArrayNode → Option ArrayNode → Option ArrayNode → ArrayNode
chosen_at (Some condition) first second = by_truth (cast_to_bool condition) first second
chosen_at None first second = Wrong NA

abbrev pub chosen_over : List (List ArrayNode) → List (List ArrayNode) → List (List ArrayNode) → List (List ArrayNode)
chosen_over condition first second = rectangle
    (max (height condition) (max (height first) (height second)))
    (max (width condition) (max (width first) (width second)))
    (λ i j. chosen_at (spread condition i j) (spread first i j) (spread second i j))

abbrev pub or_zero : Value → Value
or_zero (One element) = One element
or_zero Missing = One (Number (pos 0))
or_zero (Grid rows) = Grid rows

abbrev pub value_by_truth : Result Bool Error → Value → Value → Value
value_by_truth (Ok true) first second = or_zero first
value_by_truth (Ok false) first second = or_zero second
value_by_truth (Err e) first second = One (Wrong e)

abbrev pub choice : Value → Value → Value → Value
choice (Grid rows) first second = Grid (chosen_over rows (side (Number (pos 0)) first) (side (Number (pos 0)) second))
choice condition first second = value_by_truth (cast_value cast_to_bool condition) first second
