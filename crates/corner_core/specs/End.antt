-- Where an end of a reference lies.
--   line_at   a row or a column: as it is written where it is absolute, else counted from that of the formula's cell
--   on_sheet  the cell of a row and a column; none where the sheet hasn't both
--   end_at    the cell where an end of a reference to a sheet lies, for a formula in a cell; none off the sheet
use Rattle.std.specs.Prelude.{ℕ, ℤ, pos, ◌+ℤ◌, int_le, Bool, ◌&&◌, if◌then◌else◌, Option, Some, None}
use Rattle.value_core.specs.declared.position.CellReferenceIndex.{CellReferenceIndex}
use Rattle.tree_core.specs.declared.corner.Corner.{Corner}

abbrev pub line_at : Bool → ℤ → ℤ → ℤ
line_at absolute own line = if absolute then line else own +ℤ line

abbrev pub on_sheet : ℕ → ℤ → ℤ → Option CellReferenceIndex
on_sheet sheet row column = if int_le (pos 1) row && int_le row (pos 1048576) && int_le (pos 1) column && int_le column (pos 16384) then Some (record { sheet = sheet; row = row; column = column }) else None

abbrev pub end_at : CellReferenceIndex → ℕ → Corner → Option CellReferenceIndex
end_at cell sheet corner = on_sheet sheet (line_at corner.absolute_row cell.row corner.row) (line_at corner.absolute_column cell.column corner.column)
