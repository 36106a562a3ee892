-- The ranges that texts mean.
--   read_a1     of a text by letters and digits, on the sheet that it names or the given one
--   read_r1c1   of a text by the numbers of rows and columns, as it is read in a cell
use Rattle.std.specs.Prelude.{ℕ, Option, List}
use Rattle.value_core.specs.declared.position.CellReferenceIndex.{CellReferenceIndex}
use Rattle.value_core.specs.declared.position.Range.{Range}
use Rattle.reader_core.specs.Sheet.{body_of, head_of, sheet_of}
use Rattle.reader_core.specs.Spot.{range_in}
use Rattle.reader_core.specs.A1.{a1_ends}
use Rattle.reader_core.specs.R1C1.{r1c1_ends}

abbrev pub read_a1 : List (List ℕ) → ℕ → List ℕ → Option Range
read_a1 sheets sheet text = range_in (sheet_of sheets sheet (head_of text)) (a1_ends (body_of text))

abbrev pub read_r1c1 : List (List ℕ) → CellReferenceIndex → List ℕ → Option Range
read_r1c1 sheets cell text = range_in (sheet_of sheets cell.sheet (head_of text)) (r1c1_ends cell.row cell.column (body_of text))
