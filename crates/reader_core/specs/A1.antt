-- References by letters and digits.
--   past_dollar    a text without one `$` at its front
--   a1_part        a cell, a column or a row
--   a1_ends        a cell alone, or two cells, two columns or two rows with `:` between them
use Rattle.std.specs.Prelude.{ℕ, ℤ, pos, ◌==◌, if◌then◌else◌, Option, Some, None, List, [], ◌∷◌}
use Rattle.std.specs.Char.{is_ascii_alphabetic}
use Rattle.std.specs.List.{after_first, before_first, take_while}
use Rattle.address_core.specs.Line.{column_of, row_of}
use Rattle.address_core.specs.Quote.{past_letters}
use Rattle.reader_core.specs.declared.spot.Spot.{Spot}
use Rattle.reader_core.specs.declared.spot.Ends.{Ends}
use Rattle.reader_core.specs.declared.a1.Part.{Part}
use Rattle.reader_core.specs.declared.a1.Part.TheVariants.{Cell, Column, Row}
use Rattle.reader_core.specs.Spot.{has_colon, is_colon, positive}

abbrev pub past_dollar : List ℕ → List ℕ
past_dollar [] = []
past_dollar (c ∷ text) = if c == 36 then text else c ∷ text

abbrev pub row_part : Option ℤ → Option Part
row_part (Some row) = Some (Row row)
row_part None = None

abbrev pub cell_part : Option ℤ → Option ℤ → Option Part
cell_part (Some column) (Some row) = Some (Cell row column)
cell_part (Some column) None = None
cell_part None row = None

abbrev pub column_part : Option ℤ → Option Part
column_part (Some column) = Some (Column column)
column_part None = None

-- by the letters, and what stands behind them
abbrev pub part_of : List ℕ → List ℕ → Option Part
part_of [] rest = row_part (positive (row_of rest))
part_of (c ∷ letters) [] = column_part (positive (column_of (c ∷ letters)))
part_of (c ∷ letters) (d ∷ rest) = cell_part (positive (column_of (c ∷ letters))) (positive (row_of (past_dollar (d ∷ rest))))

abbrev pub a1_part : List ℕ → Option Part
a1_part text = part_of (take_while is_ascii_alphabetic (past_dollar text)) (past_letters (past_dollar text))

abbrev pub spot : ℤ → ℤ → Spot
spot row column = record { row = row; column = column }

abbrev pub one_cell : Option Part → Option Ends
one_cell (Some (Cell row column)) = Some (record { one = spot row column; other = spot row column })
one_cell (Some (Column column)) = None
one_cell (Some (Row row)) = None
one_cell None = None

-- whole columns have all rows of the sheet, and whole rows all its columns
abbrev pub two_parts : Option Part → Option Part → Option Ends
two_parts (Some (Cell row column)) (Some (Cell other_row other_column)) = Some (record { one = spot row column; other = spot other_row other_column })
two_parts (Some (Cell row column)) (Some (Column other)) = None
two_parts (Some (Cell row column)) (Some (Row other)) = None
two_parts (Some (Cell row column)) None = None
two_parts (Some (Column column)) (Some (Column other)) = Some (record { one = spot (pos 1) column; other = spot (pos 1048576) other })
two_parts (Some (Column column)) (Some (Cell other_row other_column)) = None
two_parts (Some (Column column)) (Some (Row other)) = None
two_parts (Some (Column column)) None = None
two_parts (Some (Row row)) (Some (Row other)) = Some (record { one = spot row (pos 1); other = spot other (pos 16384) })
two_parts (Some (Row row)) (Some (Cell other_row other_column)) = None
two_parts (Some (Row row)) (Some (Column other)) = None
two_parts (Some (Row row)) None = None
two_parts None other = None

abbrev pub a1_ends : List ℕ → Option Ends
a1_ends text = if has_colon text then two_parts (a1_part (before_first is_colon text)) (a1_part (after_first is_colon text)) else one_cell (a1_part text)
