-- Which rows and columns of a rectangle two numbers name. Rows and columns have numbers from 1.
--   lines_named    the lines that a number names among so many: all of them for 0, else the one line; none past the last
--   row_asked      the number of the row: where one number alone was given, it is that of the column in a rectangle of one row
--   column_asked   the number of the column: where one number alone was given and that is the row's, all columns
--   selected       rows and columns, where there are both
--   index_of       the rows and columns of a rectangle of a size
--   AreAmong       lines that are some of so many; IsWithin, rows and columns that a rectangle of a size has
use Rattle.std.specs.Prelude.{ℕ, ◌≤◌, ◌==◌, nat_le, Bool, ◌&&◌, if◌then◌else◌, Option, Some, None}
use Rattle.reference_core.specs.declared.selection.Lines.{Lines}
use Rattle.reference_core.specs.declared.selection.Selection.{Selection}

abbrev pub lines_named : ℕ → ℕ → Option Lines
lines_named count number =
    if number == 0 then Some (record { first = 1; last = count })
    else (if nat_le number count then Some (record { first = number; last = number })
    else None)

abbrev pub row_asked : Bool → ℕ → ℕ → ℕ
row_asked alone rows row = if alone && rows == 1 then 0 else row

abbrev pub column_asked : Bool → ℕ → ℕ → ℕ → ℕ
column_asked alone rows row column = if alone then (if rows == 1 then row else 0) else column

abbrev pub selected : Option Lines → Option Lines → Option Selection
selected (Some rows) (Some columns) = Some (record { row1 = rows.first; row2 = rows.last; column1 = columns.first; column2 = columns.last })
selected (Some rows) None = None
selected None columns = None

abbrev pub index_of : ℕ → ℕ → ℕ → ℕ → Bool → Option Selection
index_of rows columns row column alone =
    selected (lines_named rows (row_asked alone rows row)) (lines_named columns (column_asked alone rows row column))

pub record AreAmong (count : ℕ) (lines : Lines) : Type 0 where
  pub first : 1 ≤ lines.first
  pub order : lines.first ≤ lines.last
  pub last : lines.last ≤ count

pub record IsWithin (rows columns : ℕ) (selection : Selection) : Type 0 where
  pub first_row : 1 ≤ selection.row1
  pub row_order : selection.row1 ≤ selection.row2
  pub last_row : selection.row2 ≤ rows
  pub first_column : 1 ≤ selection.column1
  pub column_order : selection.column1 ≤ selection.column2
  pub last_column : selection.column2 ≤ columns
