-- Which cell of a range `@` finds for a formula in a cell.
--   same_line, is_line_in   whether two rows are one; whether a row lies between two others. Columns likewise
--   meets_by     by how the cell lies to the range: whether the range's ends lie on one sheet, in one row, in one column, and
--                whether the cell lies in its rows, in its columns
--   meets        the cell of the range in the cell's row, where the range has that row and one column; else the one in the
--                cell's column, where it has that column and one row; a range of one cell gives that cell
use Rattle.std.specs.Prelude.{◌==◌, ℤ, int_le, Bool, ◌&&◌, if◌then◌else◌, Option, Some, None}
use Rattle.value_core.specs.declared.position.CellReferenceIndex.{CellReferenceIndex}
use Rattle.value_core.specs.declared.position.Range.{Range}

abbrev pub same_line : ℤ → ℤ → Bool
same_line a b = int_le a b && int_le b a

abbrev pub is_line_in : ℤ → ℤ → ℤ → Bool
is_line_in first last n = int_le first n && int_le n last

abbrev pub in_row : CellReferenceIndex → CellReferenceIndex → CellReferenceIndex
in_row cell left = record { sheet = left.sheet; row = cell.row; column = left.column }

abbrev pub in_column : CellReferenceIndex → CellReferenceIndex → CellReferenceIndex
in_column cell left = record { sheet = left.sheet; row = left.row; column = cell.column }

unfoldable pub meets_by : (one_sheet one_row one_column has_row has_column : Bool) → CellReferenceIndex → CellReferenceIndex → Option CellReferenceIndex
meets_by one_sheet one_row one_column has_row has_column cell left =
    if one_sheet then
    (if one_row && one_column then Some left
    else (if has_row then (if one_column then Some (in_row cell left) else None)
    else (if has_column then (if one_row then Some (in_column cell left) else None)
    else None)))
    else None

abbrev pub meets : CellReferenceIndex → CellReferenceIndex → CellReferenceIndex → Option CellReferenceIndex
meets cell left right = meets_by (left.sheet == right.sheet) (same_line left.row right.row) (same_line left.column right.column)
    (is_line_in left.row right.row cell.row) (is_line_in left.column right.column cell.column) cell left
