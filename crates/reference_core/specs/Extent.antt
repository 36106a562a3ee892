-- How large a range is. A range whose ends are out of order on an axis has one row there, or one column.
--   rows_of, columns_of   how many rows and columns a range has
use Rattle.std.specs.Prelude.{ℕ}
use Rattle.value_core.specs.declared.position.Range.{Range}
use Rattle.book_core.specs.Contents.{line_count}

abbrev pub rows_of : Range → ℕ
rows_of range = line_count range.left.row range.right.row

abbrev pub columns_of : Range → ℕ
columns_of range = line_count range.left.column range.right.column
