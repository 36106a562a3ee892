-- Cells of a sheet, and the range of two of them.
--   positive     a number from 0, where there is one
--   range_of     the range between two cells of a sheet, its ends in order on each axis
--   range_in     the same where there is a sheet and there are two cells
--   has_colon    whether there is a `:` in a text
--   ends_at      two cells, where there are both
use Rattle.std.specs.Prelude.{ℕ, ℤ, pos, ◌==◌, nat_lt, Bool, Option, Some, None, List, length}
use Rattle.std.specs.Int.{int_max, int_min}
use Rattle.std.specs.List.{position_or_len}
use Rattle.value_core.specs.declared.position.CellReferenceIndex.{CellReferenceIndex}
use Rattle.value_core.specs.declared.position.Range.{Range}
use Rattle.reader_core.specs.declared.spot.Spot.{Spot}
use Rattle.reader_core.specs.declared.spot.Ends.{Ends}

abbrev pub positive : Option ℕ → Option ℤ
positive (Some n) = Some (pos n)
positive None = None

abbrev pub cell_at : ℕ → ℤ → ℤ → CellReferenceIndex
cell_at sheet row column = record { sheet = sheet; row = row; column = column }

abbrev pub range_of : ℕ → Ends → Range
range_of sheet ends = record {
  left = cell_at sheet (int_min ends.one.row ends.other.row) (int_min ends.one.column ends.other.column);
  right = cell_at sheet (int_max ends.one.row ends.other.row) (int_max ends.one.column ends.other.column);
}

abbrev pub range_in : Option ℕ → Option Ends → Option Range
range_in (Some sheet) (Some ends) = Some (range_of sheet ends)
range_in (Some sheet) None = None
range_in None ends = None

abbrev pub is_colon : ℕ → Bool
is_colon c = c == 58

abbrev pub has_colon : List ℕ → Bool
has_colon text = nat_lt (position_or_len is_colon text) (length text)

abbrev pub ends_at : Option Spot → Option Spot → Option Ends
ends_at (Some one) (Some other) = Some (record { one = one; other = other })
ends_at (Some one) None = None
ends_at None other = None
