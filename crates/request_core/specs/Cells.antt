-- The cells of the book.
--
-- `only_if`           that something holds, or nothing is found
-- `position_of`       where a cell lies: its sheet, row and column, as the first three places of an array have it
-- `position_in`       the same, of an array of just three places
-- `optional_text_at`  a text at a place; null, and no such place, for none
-- `cell_in`           a cell on one of so many sheets: its position, a value, and behind them a number format and a formula
-- `are_distinct`       that no two of some cells lie at one place
-- `cells_in`           the cells of the book, each named once
-- `last_at`            the last of some cells at a place
-- `book_with`          a book with these sheets and cells, what was put in last counting
-- `AddsCell`           a cell was put into a book that didn't hold it; it is refused exactly where the book does
-- `FillsBook`          a reader's book has the cells that stand there; it is refused exactly where none do
use Rattle.std.specs.Prelude.{◌≡◌, ℕ, ◌&&◌, ◌||◌, Bool, true, false, not, List, [], ◌∷◌, length, slice_get, nat_lt, nat_le, if◌then◌else◌, Option, Some, None, option_and_then, Result, Ok, Err, ⊤}
use Rattle.std.specs.List.{list_any}
use Rattle.std.specs.Option.{option_map_or, option_or}
use Rattle.serde_json.specs.Data.{Data}
use Rattle.value_core.specs.Position.{is_on_sheet}
use Rattle.value_core.specs.declared.array.ArrayNode.TheVariants.{Empty}
use Rattle.value_core.specs.declared.position.CellReferenceIndex.{CellReferenceIndex}
use Rattle.book_core.specs.Contents.{Contents, IsSetCell, same_cell}
use Rattle.book_core.specs.Held.{contents_of, holds}
use Rattle.book_core.specs.declared.cells.MemoryBook.{MemoryBook}
use Rattle.value_json.specs.Fields.{◌>>=◌, places_in, if_long, u32_at, i32_at, name_at}
use Rattle.value_json.specs.Traverse.{traverse}
use Rattle.value_json.specs.Values.{value_in}
use Rattle.value_json.specs.declared.error.FormError.{FormError}
use Rattle.value_json.specs.declared.error.FormError.TheVariants.{Memory, NotOfForm}
use Rattle.request_core.specs.declared.cell.Cell.{Cell}

abbrev pub only_if : Bool → Option ⊤
only_if holds = if holds then Some tt else None

unfoldable pub position_of : List Data → Option CellReferenceIndex
position_of places = do
  sheet ← u32_at 0 places
  row ← i32_at 1 places
  column ← i32_at 2 places
  Some (record { sheet = sheet; row = row; column = column })

unfoldable pub position_in : Data → Option CellReferenceIndex
position_in datum = do
  places ← places_in datum
  if_long 3 places (position_of places)

unfoldable pub optional_text_at : ℕ → List Data → Option (Option (List ℕ))
optional_text_at place places = if nat_lt place (length places) then name_at place places else Some None

unfoldable pub cell_in : ℕ → Data → Option Cell
cell_in sheet_count datum = do
  places ← places_in datum
  few ← only_if (nat_le (length places) 6)
  position ← position_of places
  on_sheet ← only_if (is_on_sheet sheet_count position)
  value ← slice_get places 3 >>= value_in
  num_fmt ← optional_text_at 4 places
  formula ← optional_text_at 5 places
  Some (record { position = position; value = value; num_fmt = num_fmt; formula = formula })

abbrev pub are_distinct : List Cell → Bool
are_distinct [] = true
are_distinct (cell ∷ cells) = not (list_any (λ other. same_cell cell.position other.position) cells) && are_distinct cells

unfoldable pub cells_in : ℕ → Data → Option (List Cell)
cells_in sheet_count datum = do
  places ← places_in datum
  cells ← traverse (cell_in sheet_count) places
  if are_distinct cells then Some cells else None

abbrev pub last_at : List Cell → CellReferenceIndex → Option Cell
last_at [] place = None
last_at (cell ∷ cells) place = option_or (last_at cells place) (if same_cell cell.position place then Some cell else None)

abbrev pub book_with : List (List ℕ) → List Cell → Contents
book_with sheets cells = record {
  value = λ place. option_map_or (λ (cell : Cell). cell.value) (last_at cells place) Empty;
  num_fmt = λ place. option_and_then (λ (cell : Cell). cell.num_fmt) (last_at cells place);
  formula = λ place. option_and_then (λ (cell : Cell). cell.formula) (last_at cells place);
  sheets = sheets;
}

abbrev pub AddsCell : Result ⊤ FormError → (old new : MemoryBook) → Cell → Type 0
AddsCell (Ok done) old new cell =
    (holds old cell.position ≡ false) × IsSetCell (contents_of old) (contents_of new) cell.position cell.value cell.num_fmt cell.formula
    × ((other : CellReferenceIndex) → holds new other ≡ (same_cell cell.position other || holds old other))
AddsCell (Err NotOfForm) old new cell = holds old cell.position ≡ true
AddsCell (Err Memory) old new cell = ⊤

abbrev pub FillsBook : Result MemoryBook FormError → List (List ℕ) → Option (List Cell) → Type 0
FillsBook (Ok book) sheets there = (cells : List Cell) × (there ≡ Some cells) × (contents_of book ≡ book_with sheets cells)
FillsBook (Err NotOfForm) sheets there = there ≡ None
FillsBook (Err Memory) sheets there = ⊤
