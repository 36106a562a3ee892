-- Parts of a rectangle.
--   rows_at     the rows of some numbers, from 0
--   columns_at  the columns of some numbers
--   crossing    the rows and the columns of two spans, each from its first number to before its second
use Rattle.std.specs.Prelude.{ℕ, ◌+◌, ◌-◌, List, length, slice_index}
use Rattle.value_core.specs.declared.array.ArrayNode.{ArrayNode}
use Rattle.rectangle_core.specs.Rectangle.{element_at, height, or_blank, rectangle, width}
use Rattle.kept_ops.specs.declared.part.Span.{Span}

abbrev pub rows_at : List (List ArrayNode) → List ℕ → List (List ArrayNode)
rows_at rows kept = rectangle (length kept) (width rows) (λ i j. or_blank (element_at rows (slice_index kept i) j))

abbrev pub columns_at : List (List ArrayNode) → List ℕ → List (List ArrayNode)
columns_at rows kept = rectangle (height rows) (length kept) (λ i j. or_blank (element_at rows i (slice_index kept j)))

abbrev pub crossing : List (List ArrayNode) → Span → Span → List (List ArrayNode)
crossing rows down right = rectangle (down.stop - down.start) (right.stop - right.start) (λ i j. or_blank (element_at rows (down.start + i) (right.start + j)))
