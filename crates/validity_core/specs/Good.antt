-- Which nodes mean something, on a book of so many sheets and by a table of kinds.
--   is_within       a number between two others, these included
--   is_line         a row or a column of a reference, on an axis of so many: one of the sheet where it is absolute, else a
--                   difference that two of the sheet may have
--   is_corner       both of an end
--   first_length    how many elements the first row has, none where there is no row
--   is_array        rows that are a rectangle no larger than a sheet
--   is_good_leaf, is_good_label   a node by what stands at it
--   is_bad          a formula whose root means nothing. An `@` always means something
--   is_on_sheet     a cell that lies on a sheet of the book
use Rattle.std.specs.Prelude.{ℕ, ◌==◌, nat_lt, nat_le, ℤ, pos, neg_ℤ, int_le, Bool, true, false, not, ◌&&◌, if◌then◌else◌, List, [], ◌∷◌, length}
use Rattle.std.specs.Int.RustNames.{int_lt}
use Rattle.std.specs.List.{list_all}
use Rattle.call_core.specs.declared.function.Function.{Function}
use Rattle.call_core.specs.declared.function.Function.TheVariants.{Other}
use Rattle.value_core.specs.declared.array.ArrayNode.{ArrayNode}
use Rattle.value_core.specs.declared.position.CellReferenceIndex.{CellReferenceIndex}
use Rattle.kind_table.specs.Table.{Table}
use Rattle.tree_core.specs.declared.corner.Corner.{Corner}
use Rattle.tree_core.specs.Label.{Leaf, reference, range, array, Label, leaf, call}
use Rattle.tree_core.specs.Tree.{Tree, tree}

abbrev pub is_within : ℤ → ℤ → ℤ → Bool
is_within least greatest n = int_le least n && int_le n greatest

abbrev pub is_line : ℤ → Bool → ℤ → Bool
is_line last absolute n = if absolute then is_within (pos 1) last n else int_lt (neg_ℤ last) n && int_lt n last

abbrev pub is_corner : Corner → Bool
is_corner corner = is_line (pos 1048576) corner.absolute_row corner.row && is_line (pos 16384) corner.absolute_column corner.column

abbrev pub is_size : ℕ → ℕ → Bool
is_size most n = nat_le 1 n && nat_le n most

abbrev pub first_length : List (List ArrayNode) → ℕ
first_length [] = 0
first_length (row ∷ rows) = length row

abbrev pub is_array : List (List ArrayNode) → Bool
is_array rows = is_size 1048576 (length rows) && is_size 16384 (first_length rows) && list_all (λ row. length row == first_length rows) rows

abbrev pub is_good_leaf : ℕ → Leaf → Bool
is_good_leaf sheets (reference sheet corner) = nat_lt sheet.index sheets && is_corner corner
is_good_leaf sheets (range sheet left right) = nat_lt sheet.index sheets && is_corner left && is_corner right
is_good_leaf sheets (array rows) = is_array rows
is_good_leaf sheets other = true

abbrev pub is_good_kind : Table → Function → Bool
is_good_kind table (Other id) = table.knows id
is_good_kind table own = true

abbrev pub is_good_label : Table → ℕ → Label → Bool
is_good_label table sheets (leaf l) = is_good_leaf sheets l
is_good_label table sheets (call kind) = is_good_kind table kind
is_good_label table sheets other = true

abbrev pub is_bad : Table → ℕ → Tree → Bool
is_bad table sheets (tree [] label ts) = not (is_good_label table sheets label)
is_bad table sheets (tree (flag ∷ run) label ts) = false

abbrev pub is_on_sheet : ℕ → CellReferenceIndex → Bool
is_on_sheet sheets cell = nat_lt cell.sheet sheets && is_within (pos 1) (pos 1048576) cell.row && is_within (pos 1) (pos 16384) cell.column
