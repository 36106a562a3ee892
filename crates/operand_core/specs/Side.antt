-- A value as the side of an operator.
--   side     a value as a rectangle, where a missing one counts as some element
--   line     which line of a side stands at a line of the result: a single one is repeated
--   spread   the element of a side that stands at a place of the result; none where it has none
use Rattle.std.specs.Prelude.{ℕ, ◌==◌, if◌then◌else◌, List, Option}
use Rattle.value_core.specs.declared.array.ArrayNode.{ArrayNode}
use Rattle.rectangle_core.specs.declared.value.Value.{Value}
use Rattle.rectangle_core.specs.declared.value.Value.TheVariants.{One, Missing, Grid}
use Rattle.rectangle_core.specs.Rectangle.{element_at, height, one_by_one, width}

abbrev pub side : ArrayNode → Value → List (List ArrayNode)
side missing (One element) = one_by_one element
side missing Missing = one_by_one missing
side missing (Grid rows) = rows

abbrev pub line : ℕ → ℕ → ℕ
line count i = if count == 1 then 0 else i

abbrev pub spread : List (List ArrayNode) → ℕ → ℕ → Option ArrayNode
spread rows i j = element_at rows (line (height rows) i) (line (width rows) j)
