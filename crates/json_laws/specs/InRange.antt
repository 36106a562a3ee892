-- Formulas whose numbers lie in the ranges that the types of their fields have.
--   kind_in_range      a kind of function whose number, where it has one, is in the range of u16
--   corner_in_range    an end of a reference
--   leaf_in_range, label_in_range   the numbers that a node itself holds
--   InRange            those of each node of a formula; AllInRange, of some formulas
use Rattle.call_core.specs.declared.function.Function.{Function}
use Rattle.call_core.specs.declared.function.Function.TheVariants.{Other}
use Rattle.tree_core.specs.Label.{Leaf, number, reference, range, wrong_reference, wrong_range, array, defined_name, named_variable, parse_error}
use Rattle.tree_core.specs.Label.{Label, leaf, closed, call, named_call}
use Rattle.tree_core.specs.Tree.{Tree, tree, Trees, none, more}
use Rattle.tree_core.specs.declared.corner.Corner.{Corner}
use Rattle.value_json.specs.InRange.{IsU16, IsU32, IsI32, IsI64, id_in_range, rows_in_range}

abbrev pub kind_in_range : Function → Type 0
kind_in_range (Other id) = IsU16 id
kind_in_range _ = Unit {0}

abbrev pub corner_in_range : Corner → Type 0
corner_in_range corner = IsI32 corner.row × IsI32 corner.column

abbrev pub leaf_in_range : Leaf → Type 0
leaf_in_range (number n) = IsI64 n
leaf_in_range (reference sheet corner) = IsU32 sheet.index × corner_in_range corner
leaf_in_range (range sheet left right) = IsU32 sheet.index × corner_in_range left × corner_in_range right
leaf_in_range (wrong_reference name corner) = corner_in_range corner
leaf_in_range (wrong_range name left right) = corner_in_range left × corner_in_range right
leaf_in_range (array rows) = rows_in_range rows
leaf_in_range (defined_name name scope formula) = id_in_range scope
leaf_in_range (named_variable name id) = id_in_range id
leaf_in_range (parse_error formula message position) = IsU32 position
leaf_in_range _ = Unit {0}

abbrev pub label_in_range : Label → Type 0
label_in_range (leaf l) = leaf_in_range l
label_in_range (closed (named_call name id)) = id_in_range id
label_in_range (call kind) = kind_in_range kind
label_in_range _ = Unit {0}

abbrev mutual
  pub InRange : Tree → Type 0
  InRange (tree run label children) = label_in_range label × AllInRange children

  pub AllInRange : Trees → Type 0
  AllInRange none = Unit {0}
  AllInRange (more t ts) = InRange t × AllInRange ts
