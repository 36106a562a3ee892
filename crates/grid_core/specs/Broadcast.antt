-- Values under an operator of two sides.
--   met          two elements, where both sides have one; else #N/A
--   spread_over  two rectangles, each repeated to the other's size
--   single       a single value's element: a blank of a missing one
--   whole_error  the error that a side is as a whole
--   broadcast    two values: the first error that is a side as a whole is the answer
use Rattle.std.specs.Prelude.{max, Bool, true, false, ◌||◌, if◌then◌else◌, List, Option, Some, None}
use Rattle.value_core.specs.declared.array.ArrayNode.{ArrayNode}
use Rattle.value_core.specs.declared.array.ArrayNode.TheVariants.{Error as Wrong, Empty}
use Rattle.value_core.specs.declared.error.Error.{Error}
use Rattle.value_core.specs.declared.error.Error.TheVariants.{NA}
use Rattle.value_core.specs.declared.operator.Operator.{Operator}
use Rattle.rectangle_core.specs.Rectangle.{rectangle, height, width}
use Rattle.rectangle_core.specs.declared.value.Value.{Value}
use Rattle.rectangle_core.specs.declared.value.Value.TheVariants.{One, Missing, Grid}
use Rattle.operand_core.specs.Side.{side, spread}
use Rattle.grid_core.specs.Combine.{combine}

abbrev pub met : Operator → Option ArrayNode → Option ArrayNode → ArrayNode
met operator (Some left) (Some right) = combine operator left right
met operator (Some left) None = Wrong NA
met operator None right = Wrong NA

abbrev pub spread_over : Operator → List (List ArrayNode) → List (List ArrayNode) → List (List ArrayNode)
spread_over operator left right = rectangle (max (height left) (height right)) (max (width left) (width right)) (λ i j. met operator (spread left i j) (spread right i j))

abbrev pub is_grid : Value → Bool
is_grid (One element) = false
is_grid Missing = false
is_grid (Grid rows) = true

abbrev pub single : Value → ArrayNode
single (One element) = element
single Missing = Empty
single (Grid rows) = Empty

abbrev pub error_in : ArrayNode → Option Error
error_in (Wrong e) = Some e
error_in other = None

abbrev pub whole_error : Value → Option Error
whole_error (One element) = error_in element
whole_error Missing = None
whole_error (Grid rows) = None

abbrev pub over_sides : Operator → Value → Value → Value
over_sides operator left right = if is_grid left || is_grid right then Grid (spread_over operator (side Empty left) (side Empty right)) else One (combine operator (single left) (single right))

abbrev pub unless_wrong : Option Error → Value → Value
unless_wrong (Some e) value = One (Wrong e)
unless_wrong None value = value

abbrev pub broadcast : Operator → Value → Value → Value
broadcast operator left right = unless_wrong (whole_error left) (unless_wrong (whole_error right) (over_sides operator left right))
