-- The static shape of a formula: how many rows and columns its value may have, as is known without evaluation.
--   extent         how many rows lie between the rows of two ends, or columns between their columns: the distance and one more, at
--                  most what a sheet has; all that a sheet has, where one end is absolute and the other isn't
--   range_shape    a range
--   dimension      a dimension of an array literal, which is at least 1 and at most 2147483647
--   literal_shape  an array literal: its rows, and the elements of its first row
--   leaf_shape     a bare node without children
--   shown, shown_all  what an argument shows of itself, and each of some arguments
--   passed         an operator over the shapes of its sides
--   call_shape     a call over what its arguments show and over their shapes: by the rows of the own kinds, and by the table
--   node_shape     a bare node over what its children show and over their shapes
--   shape, shapes  a formula, and each of some formulas. What stands under an `@` is one value
use Rattle.std.specs.Prelude.{ℕ, ℤ, pos, ◌+ℤ◌, ◌-ℤ◌, int_le, Bool, true, false, ◌&&◌, not, if◌then◌else◌, List, [], ◌∷◌, length, min, max}
use Rattle.std.specs.Int.{int_max, int_min}
use Rattle.call_core.specs.declared.function.Function.{Function}
use Rattle.call_core.specs.declared.function.Function.TheVariants.{Other}
use Rattle.value_core.specs.declared.array.ArrayNode.{ArrayNode}
use Rattle.tree_core.specs.declared.corner.Corner.{Corner}
use Rattle.tree_core.specs.Label.{Leaf, number, reference, range, array, defined_name, table_name, Label, leaf, passing, spill, closed, call}
use Rattle.tree_core.specs.Tree.{Tree, tree, Trees, none, more}
use Rattle.kind_table.specs.declared.shown.Shown.{Shown}
use Rattle.kind_table.specs.declared.shown.Shown.TheVariants.{Range as BareRange, Reference as BareReference, One as BareOne, Nothing}
use Rattle.kind_table.specs.declared.static_result.StaticResult.{StaticResult}
use Rattle.kind_table.specs.declared.static_result.StaticResult.TheVariants.{Scalar, Array, Range, Unknown}
use Rattle.kind_table.specs.Shape.{combined}
use Rattle.kind_table.specs.OwnRow.{own_row}
use Rattle.kind_table.specs.Table.{Table}

abbrev pub same_flag : Bool → Bool → Bool
same_flag true flag = flag
same_flag false flag = not flag

abbrev pub same_line : ℤ → ℤ → Bool
same_line a b = int_le a b && int_le b a

abbrev pub extent : Bool → Bool → ℤ → ℤ → ℤ → ℤ
extent absolute1 absolute2 first last most = if same_flag absolute1 absolute2 then int_min (int_max first last -ℤ int_min first last +ℤ pos 1) most else most

abbrev pub range_shape : Corner → Corner → StaticResult
range_shape left right = Range
    (extent left.absolute_row right.absolute_row left.row right.row (pos 1048576))
    (extent left.absolute_column right.absolute_column left.column right.column (pos 16384))

abbrev pub dimension : ℕ → ℤ
dimension count = pos (max 1 (min count 2147483647))

abbrev pub first_row : List (List ArrayNode) → ℕ
first_row [] = 0
first_row (row ∷ rows) = length row

abbrev pub literal_shape : List (List ArrayNode) → StaticResult
literal_shape rows = Array (dimension (length rows)) (dimension (first_row rows))

abbrev pub leaf_shape : Leaf → StaticResult
leaf_shape (range sheet left right) = range_shape left right
leaf_shape (array rows) = literal_shape rows
leaf_shape (defined_name name scope text) = Unknown
leaf_shape (table_name name) = Unknown
leaf_shape other = Scalar

abbrev pub shown : Tree → Shown
shown (tree [] (leaf (range sheet left right)) ts) = BareRange
    (same_flag left.absolute_row right.absolute_row && same_line left.row right.row)
    (same_flag left.absolute_column right.absolute_column && same_line left.column right.column)
shown (tree [] (leaf (reference sheet corner)) ts) = BareReference
shown (tree [] (leaf (number n)) ts) = if same_line n (pos 1000000) then BareOne else Nothing
shown t = Nothing

abbrev pub shown_all : Trees → List Shown
shown_all none = []
shown_all (more t ts) = shown t ∷ shown_all ts

abbrev pub passed : List StaticResult → StaticResult
passed [] = Scalar
passed (s ∷ []) = s
passed (s ∷ t ∷ more_sides) = combined s t

abbrev pub call_shape : Table → Function → List Shown → List StaticResult → StaticResult
call_shape table (Other id) shows shapes = table.shape id shapes
call_shape table kind shows shapes = own_row kind shows shapes

abbrev pub node_shape : Table → Label → List Shown → List StaticResult → StaticResult
node_shape table (leaf l) shows shapes = leaf_shape l
node_shape table (passing p) shows shapes = passed shapes
node_shape table spill shows shapes = Unknown
node_shape table (closed c) shows shapes = Unknown
node_shape table (call kind) shows shapes = call_shape table kind shows shapes

abbrev mutual
  pub shape : Table → Tree → StaticResult
  shape table (tree (flag ∷ run) label ts) = Scalar
  shape table (tree [] label ts) = node_shape table label (shown_all ts) (shapes table ts)

  pub shapes : Table → Trees → List StaticResult
  shapes table none = []
  shapes table (more t ts) = shape table t ∷ shapes table ts
