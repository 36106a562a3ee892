-- TRANSPOSE.
--   transposed  a rectangle with its rows as columns: at row i and column j it has what stood at row j and column i
use Rattle.std.specs.Prelude.{List}
use Rattle.value_core.specs.declared.array.ArrayNode.{ArrayNode}
use Rattle.rectangle_core.specs.Rectangle.{element_at, height, or_blank, rectangle, width}

abbrev pub transposed : List (List ArrayNode) → List (List ArrayNode)
transposed rows = rectangle (width rows) (height rows) (λ i j. or_blank (element_at rows j i))
