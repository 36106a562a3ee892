-- The display unit of a formula.
--   Setting, setting  what it is found by: the table of kinds, the number formats of the cells, what is known of formats, the locale,
--                     the formula's cell
--   unit_at        the unit of a cell's number format; none off the sheet
--   leaf_unit      of a node without children: a reference has that of its cell, a range that of its first written end
--   binary_unit    of an operator between two sides: a sum and a product
--   passed_unit    of an operator, over its sides' units
--   first_of       the first of some units
--   call_unit      of a call, by the class of its kind and the unit of its first argument
--   node_unit      of a bare node, over its children's units
--   unit_of        of a formula, and units_of, of each of some; none under an `@`
use Rattle.std.specs.Prelude.{ℕ, List, [], ◌∷◌, Option, Some, None, option_and_then}
use Rattle.call_core.specs.declared.function.Function.{Function}
use Rattle.call_core.specs.declared.function.Function.TheVariants.{Other}
use Rattle.value_core.specs.declared.operator.Operator.{Operator}
use Rattle.value_core.specs.declared.operator.Operator.TheVariants.{Sum, Product}
use Rattle.value_core.specs.declared.position.CellReferenceIndex.{CellReferenceIndex}
use Rattle.kind_table.specs.Table.{Table}
use Rattle.tree_core.specs.Label.{Leaf, reference, range, Passing, binary, unary, Label, leaf, passing, call}
use Rattle.tree_core.specs.Tree.{Tree, tree, Trees, none, more}
use Rattle.corner_core.specs.End.{end_at}
use Rattle.units_core.specs.Class.{class_unit}
use Rattle.units_core.specs.Part.{format_unit}
use Rattle.units_core.specs.Product.{product_unit, sum_unit}
use Rattle.units_core.specs.declared.formats.FirstPart.{FirstPart}
use Rattle.units_core.specs.declared.locale.Locale.{Locale}
use Rattle.units_core.specs.declared.units.Units.{Units}

pub record Setting : Type 0 where
  pub table : Table
  pub num_fmt : CellReferenceIndex → Option (List ℕ)
  pub first_part : List ℕ → FirstPart
  pub locale : Locale
  pub cell : CellReferenceIndex

abbrev pub setting : Table → (CellReferenceIndex → Option (List ℕ)) → (List ℕ → FirstPart) → Locale → CellReferenceIndex → Setting
setting table num_fmt first_part locale cell = record { table = table; num_fmt = num_fmt; first_part = first_part; locale = locale; cell = cell }

abbrev pub unit_at : Setting → Option CellReferenceIndex → Option Units
unit_at here None = None
unit_at here (Some at) = option_and_then (format_unit here.first_part) (here.num_fmt at)

abbrev pub leaf_unit : Setting → Leaf → Option Units
leaf_unit here (reference sheet corner) = unit_at here (end_at here.cell sheet.index corner)
leaf_unit here (range sheet left right) = unit_at here (end_at here.cell sheet.index left)
leaf_unit here other = None

abbrev pub binary_unit : Operator → Option Units → Option Units → Option Units
binary_unit (Sum kind) left right = sum_unit left right
binary_unit (Product kind) left right = product_unit kind left right
binary_unit other left right = None

abbrev pub passed_unit : Passing → List (Option Units) → Option Units
passed_unit (binary operator) (left ∷ right ∷ []) = binary_unit operator left right
passed_unit (unary operator) (operand ∷ []) = operand
passed_unit operator sides = None

abbrev pub first_of : List (Option Units) → Option Units
first_of [] = None
first_of (first ∷ others) = first

abbrev pub call_unit : Setting → Function → Option Units → Option Units
call_unit here (Other id) first = class_unit here.locale (here.table.unit_class id) first
call_unit here own first = None

abbrev pub node_unit : Setting → Label → List (Option Units) → Option Units
node_unit here (leaf l) children = leaf_unit here l
node_unit here (passing p) children = passed_unit p children
node_unit here (call kind) children = call_unit here kind (first_of children)
node_unit here other children = None

abbrev mutual
  pub unit_of : Setting → Tree → Option Units
  unit_of here (tree [] label ts) = node_unit here label (units_of here ts)
  unit_of here (tree (automatic ∷ run) label ts) = None

  pub units_of : Setting → Trees → List (Option Units)
  units_of here none = []
  units_of here (more t ts) = unit_of here t ∷ units_of here ts
