-- What is written is read.
--   read_in            the range that a text means in either style, as it is read in a cell
--   one_cell_range     the range of one cell
--   AddressReadsBack   the absolute address of a cell on a sheet of the book is read as that cell
--   NameReadsBack      a name in quotes is that name
use Rattle.std.specs.Prelude.{◌≡◌, ℕ, pos, ◌<◌, ◌≤◌, Bool, true, if◌then◌else◌, Option, Some, None, List, length}
use Rattle.value_core.specs.declared.position.CellReferenceIndex.{CellReferenceIndex}
use Rattle.value_core.specs.declared.position.Range.{Range}
use Rattle.address_core.specs.Address.{address_text}
use Rattle.quote_core.specs.Quoted.{quoted}
use Rattle.reader_core.specs.Reading.{read_a1, read_r1c1}
use Rattle.reader_core.specs.Sheet.{is_name}

abbrev pub read_in : Bool → List (List ℕ) → CellReferenceIndex → List ℕ → Option Range
read_in a1 sheets cell text = if a1 then read_a1 sheets cell.sheet text else read_r1c1 sheets cell text

abbrev pub one_cell_range : ℕ → ℕ → ℕ → Range
one_cell_range sheet row column = record {
  left = record { sheet = sheet; row = pos row; column = pos column };
  right = record { sheet = sheet; row = pos row; column = pos column };
}

abbrev pub AddressReadsBack : Bool → List (List ℕ) → CellReferenceIndex → ℕ → ℕ → Type 0
AddressReadsBack a1 sheets cell row column =
    cell.sheet < length sheets → 1 ≤ row → row ≤ 1048576 → 1 ≤ column → column ≤ 16384
    → (text : List ℕ) → address_text (pos row) (pos column) (pos 1) a1 None ≡ Some text → read_in a1 sheets cell text ≡ Some (one_cell_range cell.sheet row column)

abbrev pub NameReadsBack : List ℕ → Type 0
NameReadsBack name = is_name (quoted 39 name) name ≡ true
