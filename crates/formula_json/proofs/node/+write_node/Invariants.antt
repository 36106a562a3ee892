-- The parts so far have been written.
use Rattle.std.proofs.Common.{◌≡◌, ◌++◌}
use Rattle.tree_core.specs.View.{parts_in}
use Rattle.formula_json.specs.Formula.{node_data}
use Rattle.value_json.proofs.Lists.{tokens_before}
use Rattle.formula_json.proofs.node.+write_node.Given as goal

abbrev pub invariant-loop-index : goal.invariant-loop-index
invariant-loop-index l = record {
  before : l.writer.before ≡ l.initial.writer.before;
  tokens : l.writer.tokens ≡ l.initial.writer.tokens ++ tokens_before node_data (parts_in l.view) l.index;
}
