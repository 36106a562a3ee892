use Rattle.std.proofs.Common.{drop, map}
use Rattle.tree_core.specs.Formula.{tree_of}
use Rattle.value_json.specs.Traverse.{traverse}
use Rattle.formula_json.specs.Formula.{node_seen}
use Rattle.value_json.proofs.Traversal.{Reached}
use Rattle.formula_json.proofs.node.+node.Given as goal

abbrev pub invariant-read_arguments-loop-index : goal.invariant-read_arguments-loop-index
invariant-read_arguments-loop-index l = Reached (λ node. node) node_seen l.items (traverse (λ node. node) (drop l.from (map node_seen l.items))) (map tree_of l.arguments) l.index
