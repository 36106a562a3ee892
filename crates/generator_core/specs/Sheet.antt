-- The sheet of a generated request: rows of a text, a truth value and a number in its first three columns.
--   item, is_kept, amount   what a row holds, by the seed and by its number from 1
--   in_row      the same by column
--   in_rows     what stands in a row and a column where only so many rows are filled
--   sheet_with  the one sheet, with so many rows filled
use Rattle.std.specs.Prelude.{ℕ, ◌+◌, ◌*◌, ◌%◌, ◌==◌, nat_le, nat_lt, ℤ, pos, negsuc, Bool, ◌&&◌, if◌then◌else◌, List, [], ◌∷◌, ◌++◌, codes, decimal, None}
use Rattle.std.specs.Ordering.{int_eq, is_eq, nat_cmp}
use Rattle.value_core.specs.declared.array.ArrayNode.{ArrayNode}
use Rattle.value_core.specs.declared.array.ArrayNode.TheVariants.{Boolean, Empty, Number, String}
use Rattle.value_core.specs.declared.position.CellReferenceIndex.{CellReferenceIndex}
use Rattle.book_core.specs.Contents.{Contents}

abbrev pub item : (seed row : ℕ) → List ℕ
item seed row = codes "item-" ++ decimal ((7 * row + seed) % 50)

abbrev pub is_kept : (seed row : ℕ) → Bool
is_kept seed row = row * seed % 3 == 0

-- in millionths
abbrev pub amount : (seed row : ℕ) → ℤ
amount seed row = pos ((31 * row + seed) % 1000 * 1000000)

abbrev pub in_row : (seed row : ℕ) → ℤ → ArrayNode
in_row seed row column =
    if int_eq (pos 1) column then String (item seed row)
    else if int_eq (pos 2) column then Boolean (is_kept seed row)
    else if int_eq (pos 3) column then Number (amount seed row)
    else Empty

abbrev pub in_rows : (seed count : ℕ) → ℤ → ℤ → ArrayNode
in_rows seed count (pos row) column = if nat_lt 0 row && nat_le row count then in_row seed row column else Empty
in_rows seed count (negsuc n) column = Empty

abbrev pub value_with : (seed count : ℕ) → CellReferenceIndex → ArrayNode
value_with seed count cell = if is_eq (nat_cmp 0 cell.sheet) then in_rows seed count cell.row cell.column else Empty

abbrev pub sheet_with : (seed count : ℕ) → Contents
sheet_with seed count = record {
  value = value_with seed count;
  num_fmt = λ cell. None;
  formula = λ cell. None;
  sheets = codes "Sheet1" ∷ [];
}
