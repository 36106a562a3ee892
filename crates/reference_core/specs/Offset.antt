-- A range that lies so many rows and columns from another. Numbers are in millionths; an extent is a whole number, one less
-- than a number of rows or columns.
--   ceiling           the least whole number that is not below a number
--   extent_asked      the extent that a number asks for: by the ceiling of a number below 1, by the floor of any other
--   extent_of         the extent that a number asks for, or without one that of the lines from the first to the last
--   extents_of        the extents that a height and a width ask for, or without them those of the reference
--   extents_refused   #REF! where an extent is -1, else #VALUE! where one is below that
--   first_line        the line that lies so many whole lines, cut toward zero, from another; last_line, the one an extent behind it
--   cell_on_sheet     a cell, where its row and column lie on the sheet
--   range_on_sheet    a range, where both ends are; else #REF!
--   first_cell        the first cell of what lies so many rows and columns from a cell, and last_cell, its last one
--   moved_range       the range that begins so many rows and columns from a cell, where it lies on the sheet
--   unless_refused    the error, where there is one
--   offset_of         the range that begins so many rows and columns from the first cell of the reference
use Rattle.std.specs.Prelude.{ℕ, ℤ, pos, negsuc, ◌+ℤ◌, ◌-ℤ◌, int_lt, int_le, ◌&&◌, ◌||◌, if◌then◌else◌, Option, Some, None, Result, Ok, Err}
use Rattle.std.specs.Int.{int_gap}
use Rattle.std.specs.Ordering.{int_eq}
use Rattle.value_core.specs.declared.error.Error.{Error}
use Rattle.value_core.specs.declared.error.Error.TheVariants.{REF, VALUE}
use Rattle.value_core.specs.declared.position.CellReferenceIndex.{CellReferenceIndex}
use Rattle.value_core.specs.declared.position.Range.{Range}
use Rattle.value_core.specs.declared.position.TheConstants.{LAST_ROW, LAST_COLUMN}
use Rattle.number_core.specs.Whole.{floor, trunc}
use Rattle.reference_core.specs.declared.offset.Extents.{Extents}

abbrev pub ceiling : ℤ → ℤ
ceiling n = floor (n +ℤ pos 999999)

abbrev pub extent_asked : ℤ → ℤ
extent_asked n = if int_lt n (pos 1000000) then ceiling n -ℤ pos 1 else floor n -ℤ pos 1

abbrev pub extent_of : ℤ → ℤ → Option ℤ → ℤ
extent_of first last (Some n) = extent_asked n
extent_of first last None = pos (int_gap first last)

abbrev pub extents_of : Range → Option ℤ → Option ℤ → Extents
extents_of reference height width = record {
  height = extent_of reference.left.row reference.right.row height;
  width = extent_of reference.left.column reference.right.column width;
}

abbrev pub extents_refused : Extents → Option Error
extents_refused extents =
    if int_eq extents.height (negsuc 0) || int_eq extents.width (negsuc 0) then Some REF
    else (if int_lt extents.height (negsuc 0) || int_lt extents.width (negsuc 0) then Some VALUE
    else None)

abbrev pub first_line : ℤ → ℤ → ℤ
first_line line number = line +ℤ trunc number

abbrev pub last_line : ℤ → ℤ → ℤ → ℤ
last_line line number extent = line +ℤ trunc number +ℤ extent

abbrev pub cell_on_sheet : ℕ → ℤ → ℤ → Option CellReferenceIndex
cell_on_sheet sheet row column =
    if int_le (pos 1) row && int_le row LAST_ROW && int_le (pos 1) column && int_le column LAST_COLUMN
    then Some (record { sheet = sheet; row = row; column = column })
    else None

abbrev pub range_on_sheet : Option CellReferenceIndex → Option CellReferenceIndex → Result Range Error
range_on_sheet (Some left) (Some right) = Ok (record { left = left; right = right })
range_on_sheet (Some left) None = Err REF
range_on_sheet None right = Err REF

abbrev pub first_cell : CellReferenceIndex → ℤ → ℤ → Option CellReferenceIndex
first_cell from rows columns = cell_on_sheet from.sheet (first_line from.row rows) (first_line from.column columns)

abbrev pub last_cell : CellReferenceIndex → ℤ → ℤ → Extents → Option CellReferenceIndex
last_cell from rows columns extents =
    cell_on_sheet from.sheet (last_line from.row rows extents.height) (last_line from.column columns extents.width)

abbrev pub moved_range : CellReferenceIndex → ℤ → ℤ → Extents → Result Range Error
moved_range from rows columns extents = range_on_sheet (first_cell from rows columns) (last_cell from rows columns extents)

abbrev pub unless_refused : Option Error → Result Range Error → Result Range Error
unless_refused (Some e) range = Err e
unless_refused None range = range

unfoldable pub offset_of : Range → ℤ → ℤ → Option ℤ → Option ℤ → Result Range Error
offset_of reference rows columns height width =
    let extents = extents_of reference height width in
    unless_refused (extents_refused extents) (moved_range reference.left rows columns extents)
