-- The two rules that a spreadsheet's import may go by, with a table of kinds.
--   is_closed    a range operator, a named call, a lambda and a call of one: import goes into no child of them
--   import_rule  these nodes are closed; a node is range-like by its children as imported; a child's context is by the call that it is
--                an argument of, and by the given shapes
use Rattle.std.specs.Prelude.{Bool, true, false}
use Rattle.kind_table.specs.Table.{Table}
use Rattle.tree_core.specs.Label.{Label, closed}
use Rattle.shape_core.specs.Shape.{shown_all}
use Rattle.import_core.specs.After.{context, children_after, is_range_like}
use Rattle.import_core.specs.declared.rule.ImportRule.{ImportRule}
use Rattle.import_core.specs.Rule.{Rule}

abbrev pub is_closed : Label → Bool
is_closed (closed c) = true
is_closed label = false

abbrev pub import_rule : ImportRule → Table → Rule
import_rule which table = record {
  closed = is_closed;
  -- what is wanted of the node does not matter: that of a call's arguments is by the call alone, and no other node asks its children
  range_like = λ label ts. is_range_like table label (shown_all ts) (children_after which table false label ts);
  context = context which table;
}
