-- A rectangle as its lines: its rows, or by columns its columns.
--   line_count    how many lines there are
--   line_length   how many elements each has
--   line_element  the element at a place of a line, both from 0
--   one_line      a line, by its number
--   lines         all of them
--   scan          the elements, one line after another
use Rattle.std.specs.Prelude.{ℕ, Bool, if◌then◌else◌, List}
use Rattle.std.specs.List.{flat_map}
use Rattle.value_core.specs.declared.array.ArrayNode.{ArrayNode}
use Rattle.rectangle_core.specs.Rectangle.{element_at, height, or_blank, tabulate, width}

abbrev pub line_count : Bool → List (List ArrayNode) → ℕ
line_count by_column rows = if by_column then width rows else height rows

abbrev pub line_length : Bool → List (List ArrayNode) → ℕ
line_length by_column rows = if by_column then height rows else width rows

abbrev pub line_element : Bool → List (List ArrayNode) → ℕ → ℕ → ArrayNode
line_element by_column rows i k = or_blank (if by_column then element_at rows k i else element_at rows i k)

abbrev pub one_line : Bool → List (List ArrayNode) → ℕ → List ArrayNode
one_line by_column rows i = tabulate (line_length by_column rows) (line_element by_column rows i)

abbrev pub lines : Bool → List (List ArrayNode) → List (List ArrayNode)
lines by_column rows = tabulate (line_count by_column rows) (one_line by_column rows)

abbrev pub scan : Bool → List (List ArrayNode) → List ArrayNode
scan by_column rows = flat_map (λ line. line) (lines by_column rows)
