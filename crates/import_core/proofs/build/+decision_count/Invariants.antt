-- The count goes on to the parts of a node, and from a call to the deepest of its arguments.
use Rattle.std.proofs.Common.{◌≡◌, map, ◌+◌, ◌*◌, drop}
use denote.Param.Weighed.{most}
use Rattle.tree_core.specs.Formula.{tree_of}
use Rattle.tree_core.specs.Tree.{forest}
use Rattle.tree_core.specs.declared.node.Node.{size-Node}
use Rattle.import_core.specs.Decisions.{argument_decision_count}
use Rattle.import_core.proofs.build.+decision_count.Given as goal

abbrev pub decreases-decision_count : goal.decreases-decision_count
decreases-decision_count l = 2 * size-Node l.node.now

abbrev pub decreases-argument_decision_count : goal.decreases-argument_decision_count
decreases-argument_decision_count l = 2 * most size-Node l.args.now + 1

abbrev pub invariant-argument_decision_count-loop-arg : goal.invariant-argument_decision_count-loop-arg
invariant-argument_decision_count-loop-arg l = l.count + argument_decision_count (forest (map tree_of (drop l.arg-index l.arg-items))) ≡ argument_decision_count (forest (map tree_of l.arg-items))
