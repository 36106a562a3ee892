-- Cells that lie on a sheet.
--   IsInside         a row and a column of a sheet
--   on_sheet_inside  the cell of a row and a column is there only where they are these; on_sheet_row, on_sheet_column, they are its own
use Rattle.std.proofs.Common.{◌≡◌, ℕ, ℤ, pos, ◌≤ℤ◌, arith, Some}
use Rattle.std.proofs.lemmas.Int.{ints}
use Rattle.value_core.specs.declared.position.CellReferenceIndex.{CellReferenceIndex}
use Rattle.corner_core.specs.End.{on_sheet}

pub record IsInside (row column : ℤ) : Type 0 where
  pub row_above : pos 1 ≤ℤ row
  pub row_below : row ≤ℤ pos 1048576
  pub column_above : pos 1 ≤ℤ column
  pub column_below : column ≤ℤ pos 16384

pub on_sheet_inside : (sheet : ℕ) (row column : ℤ) (at : CellReferenceIndex) → on_sheet sheet row column ≡ Some at → IsInside row column
on_sheet_inside sheet row column at h = record { row_above = grind (arith, ints); row_below = grind (arith, ints); column_above = grind (arith, ints); column_below = grind (arith, ints) }

pub on_sheet_row : (sheet : ℕ) (row column : ℤ) (at : CellReferenceIndex) → on_sheet sheet row column ≡ Some at → at.row ≡ row
on_sheet_row sheet row column at h = grind (arith, ints)

pub on_sheet_column : (sheet : ℕ) (row column : ℤ) (at : CellReferenceIndex) → on_sheet sheet row column ≡ Some at → at.column ≡ column
on_sheet_column sheet row column at h = grind (arith, ints)
