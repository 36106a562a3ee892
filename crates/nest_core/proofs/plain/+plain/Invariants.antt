-- What is left of the arguments; and a part is smaller than its call.
use Rattle.std.proofs.Common.{◌≡◌, ◌+◌, ◌-◌, ◌*◌, drop, map}
use denote.Param.Weighed.{most}
use Rattle.tree_core.specs.Formula.{tree_of}
use Rattle.tree_core.specs.Tree.{forest}
use Rattle.tree_core.specs.declared.node.Node.{size-Node}
use Rattle.nest_core.specs.Plain.{are_arguments}
use Rattle.nest_core.proofs.plain.+plain.Given as goal

abbrev pub decreases-is_plain_nest : goal.decreases-is_plain_nest
decreases-is_plain_nest l = 3 * size-Node l.node.now

abbrev pub decreases-are_arguments : goal.decreases-are_arguments
decreases-are_arguments l = 3 * most size-Node l.nodes.now + 2

abbrev pub decreases-is_argument : goal.decreases-is_argument
decreases-is_argument l = 3 * size-Node l.node.now + 1

abbrev pub invariant-are_arguments-loop-index : goal.invariant-are_arguments-loop-index
invariant-are_arguments-loop-index l = are_arguments (forest (map tree_of (drop l.index l.nodes))) (l.arrays - l.index) ≡ are_arguments (forest (map tree_of l.nodes)) l.arrays
