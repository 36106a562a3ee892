-- Where a cell lies.
--   is_on_sheet  whether a cell lies on a sheet of a book that has so many
use Rattle.std.specs.Prelude.{ℕ, pos, ◌&&◌, Bool, nat_lt, int_le}
use Rattle.value_core.specs.declared.position.CellReferenceIndex.{CellReferenceIndex}
use Rattle.value_core.specs.declared.position.TheConstants.{LAST_ROW, LAST_COLUMN}

abbrev pub is_on_sheet : ℕ → CellReferenceIndex → Bool
is_on_sheet sheet_count cell =
    nat_lt cell.sheet sheet_count && int_le (pos 1) cell.row && int_le cell.row LAST_ROW && int_le (pos 1) cell.column && int_le cell.column LAST_COLUMN
