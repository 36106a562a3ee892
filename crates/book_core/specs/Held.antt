-- What a book in memory holds.
--   key_of, key_cmp   a cell as the key of a map, and the order of keys
--   held_at      what is held of a cell
--   holds        whether something was set for a cell
--   contents_of  the book's contents
--   IsSameBook   the same contents, set for the same cells
use Rattle.std.specs.Prelude.{◌≡◌, ℕ, ℤ, Bool, List, Option, option_and_then, is_some}
use Rattle.std.specs.Option.{option_map_or}
use Rattle.std.specs.Ordering.{nat_cmp, int_cmp, ordering_then}
use Rattle.std.specs.BTreeMap.{is_at}
use Rattle.std.specs.Map.{lookup}
use Rattle.std.specs.declared.cmp.Ordering.{Ordering}
use Rattle.value_core.specs.declared.array.ArrayNode.TheVariants.{Empty}
use Rattle.value_core.specs.declared.position.CellReferenceIndex.{CellReferenceIndex}
use Rattle.book_core.specs.Contents.{Contents}
use Rattle.book_core.specs.declared.held.Held.{Held}
use Rattle.book_core.specs.declared.cells.MemoryBook.{MemoryBook}

abbrev pub Key : Type 0
Key = ℕ × (ℤ × ℤ)

abbrev pub key_of : CellReferenceIndex → Key
key_of cell = (cell.sheet, (cell.row, cell.column))

abbrev pub key_cmp : Key → Key → Ordering
key_cmp a b = ordering_then (nat_cmp a.0 b.0) (ordering_then (int_cmp a.1.0 b.1.0) (int_cmp a.1.1 b.1.1))

abbrev pub held_at : List (Key × Held) → CellReferenceIndex → Option Held
held_at entries cell = lookup (is_at (key_cmp (key_of cell))) entries

abbrev pub holds : MemoryBook → CellReferenceIndex → Bool
holds book cell = is_some (held_at book.cells.entries cell)

abbrev pub contents_of : MemoryBook → Contents
contents_of book = record {
  value = λ cell. option_map_or (λ (held : Held). held.value) (held_at book.cells.entries cell) Empty;
  num_fmt = λ cell. option_and_then (λ (held : Held). held.num_fmt) (held_at book.cells.entries cell);
  formula = λ cell. option_and_then (λ (held : Held). held.formula) (held_at book.cells.entries cell);
  sheets = book.sheets;
}

pub record IsSameBook (old new : MemoryBook) : Type 0 where
  pub contents : contents_of new ≡ contents_of old
  pub held : holds new ≡ holds old
