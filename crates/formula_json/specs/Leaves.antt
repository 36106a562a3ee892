-- The nodes without children: of what stands at the places of their arrays, and what is written of them.
--
-- `boolean_of`          a truth value
-- `number_of`           a number
-- `text_of`             a text
-- `error_of`            an error value
-- `empty_of`            an argument that was left out
-- `reference_of`        a reference to a cell
-- `range_of`            a reference to a range of cells
-- `wrong_reference_of`  a reference to a cell of a sheet that isn't there
-- `wrong_range_of`      a reference to a range of a sheet that isn't there
-- `array_of`            an array literal
-- `defined_name_of`     a name that was defined
-- `table_of`            the name of a table
-- `variable_of`         a variable
-- `parse_error_of`      a text that is no formula
-- `leaf_of`             a node without children, by its tag
-- `corner_at`, `corner_data`  where an end of a reference lies: whether row and column are absolute, then row and column
-- `leaf_own`            what is written of a node without children, behind its tag
use Rattle.std.specs.Prelude.{ℕ, ◌+◌, pos, List, [], ◌∷◌, ◌++◌, slice_get, Option, Some}
use Rattle.serde_json.specs.Data.{Data, boolean, string}
use Rattle.value_core.specs.ErrorName.{error_name}
use Rattle.tree_core.specs.Label as label
use Rattle.tree_core.specs.declared.corner.Corner.{Corner}
use Rattle.tree_core.specs.Formula.{corner}
use Rattle.formula_json.specs.declared.tag.LeafTag.{LeafTag}
use Rattle.formula_json.specs.declared.tag.LeafTag.TheVariants.{Boolean, Number, Text, Error, Empty, Reference, Range, WrongReference, WrongRange, Array, DefinedName, Table, Variable, ParseError}
use Rattle.value_json.specs.ErrorValues.{error_at}
use Rattle.value_json.specs.Fields.{◌>>=◌, if_long, u32_at, id_at, i32_at, i64_at, truth_at, text_at, name_at}
use Rattle.value_json.specs.Piece.{whole, text_or_null, number_or_null}
use Rattle.value_json.specs.Values.{rows_in, rows_data}

unfoldable pub boolean_of : List Data → Option label.Leaf
boolean_of places = if_long 2 places do
  truth ← truth_at 1 places
  Some (label.boolean truth)

unfoldable pub number_of : List Data → Option label.Leaf
number_of places = if_long 2 places do
  millionths ← i64_at 1 places
  Some (label.number millionths)

unfoldable pub text_of : List Data → Option label.Leaf
text_of places = if_long 2 places do
  text ← text_at 1 places
  Some (label.string text)

unfoldable pub error_of : List Data → Option label.Leaf
error_of places = if_long 2 places do
  error ← error_at 1 places
  Some (label.error error)

unfoldable pub empty_of : List Data → Option label.Leaf
empty_of places = if_long 1 places (Some label.empty)

unfoldable pub corner_at : ℕ → List Data → Option Corner
corner_at place places = do
  absolute_row ← truth_at place places
  absolute_column ← truth_at (place + 1) places
  row ← i32_at (place + 2) places
  column ← i32_at (place + 3) places
  Some (corner absolute_row absolute_column row column)

unfoldable pub reference_of : List Data → Option label.Leaf
reference_of places = if_long 7 places do
  index ← u32_at 1 places
  name ← name_at 2 places
  end ← corner_at 3 places
  Some (label.reference (record { name = name; index = index }) end)

unfoldable pub range_of : List Data → Option label.Leaf
range_of places = if_long 11 places do
  index ← u32_at 1 places
  name ← name_at 2 places
  left ← corner_at 3 places
  right ← corner_at 7 places
  Some (label.range (record { name = name; index = index }) left right)

unfoldable pub wrong_reference_of : List Data → Option label.Leaf
wrong_reference_of places = if_long 6 places do
  name ← name_at 1 places
  end ← corner_at 2 places
  Some (label.wrong_reference name end)

unfoldable pub wrong_range_of : List Data → Option label.Leaf
wrong_range_of places = if_long 10 places do
  name ← name_at 1 places
  left ← corner_at 2 places
  right ← corner_at 6 places
  Some (label.wrong_range name left right)

unfoldable pub array_of : List Data → Option label.Leaf
array_of places = if_long 2 places do
  rows ← slice_get places 1 >>= rows_in
  Some (label.array rows)

unfoldable pub defined_name_of : List Data → Option label.Leaf
defined_name_of places = if_long 4 places do
  name ← text_at 1 places
  sheet ← id_at 2 places
  formula ← text_at 3 places
  Some (label.defined_name name sheet formula)

unfoldable pub table_of : List Data → Option label.Leaf
table_of places = if_long 2 places do
  name ← text_at 1 places
  Some (label.table_name name)

unfoldable pub variable_of : List Data → Option label.Leaf
variable_of places = if_long 3 places do
  name ← text_at 1 places
  id ← id_at 2 places
  Some (label.named_variable name id)

unfoldable pub parse_error_of : List Data → Option label.Leaf
parse_error_of places = if_long 4 places do
  formula ← text_at 1 places
  message ← text_at 2 places
  position ← u32_at 3 places
  Some (label.parse_error formula message position)

unfoldable pub leaf_of : LeafTag → List Data → Option label.Leaf
leaf_of Boolean places = boolean_of places
leaf_of Number places = number_of places
leaf_of Text places = text_of places
leaf_of Error places = error_of places
leaf_of Empty places = empty_of places
leaf_of Reference places = reference_of places
leaf_of Range places = range_of places
leaf_of WrongReference places = wrong_reference_of places
leaf_of WrongRange places = wrong_range_of places
leaf_of Array places = array_of places
leaf_of DefinedName places = defined_name_of places
leaf_of Table places = table_of places
leaf_of Variable places = variable_of places
leaf_of ParseError places = parse_error_of places

abbrev pub corner_data : Corner → List Data
corner_data corner = boolean corner.absolute_row ∷ boolean corner.absolute_column ∷ whole corner.row ∷ whole corner.column ∷ []

abbrev pub leaf_own : label.Leaf → List Data
leaf_own (label.boolean b) = boolean b ∷ []
leaf_own (label.number n) = whole n ∷ []
leaf_own (label.string t) = string t ∷ []
leaf_own (label.error e) = string (error_name e) ∷ []
leaf_own label.empty = []
leaf_own (label.reference sheet corner) = whole (pos sheet.index) ∷ text_or_null sheet.name ∷ corner_data corner
leaf_own (label.range sheet left right) = whole (pos sheet.index) ∷ text_or_null sheet.name ∷ corner_data left ++ corner_data right
leaf_own (label.wrong_reference name corner) = text_or_null name ∷ corner_data corner
leaf_own (label.wrong_range name left right) = text_or_null name ∷ corner_data left ++ corner_data right
leaf_own (label.array rows) = rows_data rows ∷ []
leaf_own (label.defined_name name scope formula) = string name ∷ number_or_null scope ∷ string formula ∷ []
leaf_own (label.table_name name) = string name ∷ []
leaf_own (label.named_variable name id) = string name ∷ number_or_null id ∷ []
leaf_own (label.parse_error formula message position) = string formula ∷ string message ∷ whole (pos position) ∷ []
