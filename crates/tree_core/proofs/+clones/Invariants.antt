-- What is copied so far is the first part of the given list. A call goes on to the deepest of what it was given.
use Rattle.std.proofs.Common.{◌≡◌, ◌+◌, ◌*◌, max, take}
use denote.Param.Weighed.{most}
use Rattle.tree_core.specs.View.{closed_parts}
use Rattle.tree_core.specs.declared.node.Node.{size-Node}
use Rattle.tree_core.proofs.+clones.Given as goal

abbrev pub invariant-clone::clone_nodes-loop-index : goal.invariant-clone::clone_nodes-loop-index
invariant-clone::clone_nodes-loop-index l = l.copy ≡ take l.index l.nodes

abbrev pub decreases-node::Node::try_clone : goal.decreases-node::Node::try_clone
decreases-node::Node::try_clone l = 3 * size-Node l.self.now

abbrev pub decreases-clone::clone_nodes : goal.decreases-clone::clone_nodes
decreases-clone::clone_nodes l = 3 * most size-Node l.nodes.now + 1

abbrev pub decreases-clone::clone_binary : goal.decreases-clone::clone_binary
decreases-clone::clone_binary l = 3 * max (size-Node l.left.now) (size-Node l.right.now) + 2

abbrev pub decreases-clone::clone_closed : goal.decreases-clone::clone_closed
decreases-clone::clone_closed l = 3 * most size-Node (closed_parts l.node) + 2
