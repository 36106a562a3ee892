use Rattle.std.proofs.Common.{◌≡◌, ◌+◌, ◌*◌, List, Some, length, map}
use Rattle.serde_json.specs.Data.{Data}
use Rattle.tree_core.specs.Formula.{tree_of}
use Rattle.value_json.specs.Traverse.{traverse}
use Rattle.formula_json.specs.Formula.{node_of}
use Rattle.straight_json.proofs.Steps.{Passed}
use Rattle.straight_json.proofs.node.+node.Given as goal

abbrev pub decreases-read_node : goal.decreases-read_node
decreases-read_node l = 4 * l.depth

abbrev pub decreases-read_arguments : goal.decreases-read_arguments
decreases-read_arguments l = 4 * l.depth + 1

abbrev pub decreases-read_binary : goal.decreases-read_binary
decreases-read_binary l = 4 * l.depth + 2

abbrev pub decreases-read_range_operator : goal.decreases-read_range_operator
decreases-read_range_operator l = 4 * l.depth + 2

abbrev pub decreases-read_unary : goal.decreases-read_unary
decreases-read_unary l = 4 * l.depth + 2

abbrev pub decreases-read_spill : goal.decreases-read_spill
decreases-read_spill l = 4 * l.depth + 2

abbrev pub decreases-read_call : goal.decreases-read_call
decreases-read_call l = 4 * l.depth + 2

abbrev pub decreases-read_named_call : goal.decreases-read_named_call
decreases-read_named_call l = 4 * l.depth + 2

abbrev pub decreases-read_intersection : goal.decreases-read_intersection
decreases-read_intersection l = 4 * l.depth + 2

abbrev pub decreases-read_lambda : goal.decreases-read_lambda
decreases-read_lambda l = 4 * l.depth + 2

abbrev pub decreases-read_lambda_call : goal.decreases-read_lambda_call
decreases-read_lambda_call l = 4 * l.depth + 2

abbrev pub decreases-read_tagged : goal.decreases-read_tagged
decreases-read_tagged l = 4 * l.depth + 3

abbrev pub invariant-read_arguments-arguments : goal.invariant-read_arguments-arguments
invariant-read_arguments-arguments l =
    (done : List Data) × Passed l.depth l.initial.reader done l.reader × (traverse node_of done ≡ Some (map tree_of l.arguments))

abbrev pub decreases-read_arguments-arguments : goal.decreases-read_arguments-arguments
decreases-read_arguments-arguments l = length l.reader
