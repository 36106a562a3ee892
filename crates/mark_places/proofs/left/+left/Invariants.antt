-- What is left of the parts of a node, and of a call's deepest argument after the call.
use Rattle.std.proofs.Common.{◌≡◌, map, ◌+◌, ◌*◌, take}
use denote.Param.Weighed.{most}
use Rattle.tree_core.specs.Formula.{tree_of}
use Rattle.tree_core.specs.declared.node.Node.{size-Node}
use Rattle.mark_places.specs.Left.{left_of_all}
use Rattle.mark_places.proofs.left.+left.Given as goal

abbrev pub decreases-left_of : goal.decreases-left_of
decreases-left_of l = 3 * size-Node l.node.now

abbrev pub decreases-left_of_part : goal.decreases-left_of_part
decreases-left_of_part l = 3 * size-Node l.node.now + 1

abbrev pub decreases-left_of_all : goal.decreases-left_of_all
decreases-left_of_all l = 3 * most size-Node l.args.now + 2

abbrev pub invariant-left_of_all-loop-index : goal.invariant-left_of_all-loop-index
invariant-left_of_all-loop-index l = map tree_of l.left ≡ left_of_all (map tree_of (take l.index l.arg-items)) l.marks
