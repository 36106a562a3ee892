-- What formulas are evaluated in.
--   Setting    a table of kinds, a book, the greatest number of cells of an array, the formula's cell
--   setting    of these
use Rattle.std.specs.Prelude.{ℕ}
use Rattle.value_core.specs.declared.position.CellReferenceIndex.{CellReferenceIndex}
use Rattle.book_core.specs.Contents.{Contents}
use Rattle.kind_table.specs.Table.{Table}

pub record Setting : Type 0 where
  pub table : Table
  pub book : Contents
  pub limit : ℕ
  pub cell : CellReferenceIndex

abbrev pub setting : Table → Contents → ℕ → CellReferenceIndex → Setting
setting table book limit cell = record { table = table; book = book; limit = limit; cell = cell }
