use Rattle.std.proofs.Common.{ap, map}
use Rattle.tree_core.specs.Formula.{tree_of}
use Rattle.formula_json.specs.Formula.{node_seen}
use Rattle.value_json.proofs.Traversal.{reached-first}
use Rattle.formula_json.proofs.Seen.{node_of-Array}
use Rattle.formula_json.proofs.node.+node.Goals as goal

pub read_node-returns-in-Array : goal.read_node-returns-in-Array
read_node-returns-in-Array t c = rw (c.in-Array.is, node_of-Array, ← c.deref.ensures.value) c.read_tagged.ensures

pub read_arguments-loop-index-init : goal.read_arguments-loop-index-init
read_arguments-loop-index-init t c =
    reached-first (λ node. node) node_seen c.args.items.now (map tree_of c.new-arguments.result) c.args.from (ap (map tree_of) c.new-arguments.ensures)
