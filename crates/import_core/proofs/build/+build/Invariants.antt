-- Import goes on to the parts of a node, and from a call to the deepest of its arguments.
use Rattle.std.proofs.Common.{◌≡◌, map, ◌+◌, ◌*◌, ◌≤◌, length, take}
use denote.Param.Weighed.{most}
use Rattle.tree_core.specs.Formula.{tree_of}
use Rattle.tree_core.specs.Tree.{forest}
use Rattle.tree_core.specs.declared.node.Node.{size-Node}
use Rattle.shape_core.specs.Shape.{shapes}
use Rattle.import_core.specs.After.{wants_one}
use Rattle.import_core.specs.Arguments.{each}
use Rattle.import_core.specs.Decisions.{argument_decisions}
use Rattle.import_core.specs.ImportOf.{import_of}
use Rattle.import_core.specs.ImportRule.{import_rule}
use Rattle.import_core.proofs.build.+build.Given as goal

abbrev pub decreases-build : goal.decreases-build
decreases-build g l = 3 * size-Node l.node.now

abbrev pub decreases-build_call : goal.decreases-build_call
decreases-build_call g l = 3 * most size-Node l.args.now + 2

abbrev pub decreases-build_arguments : goal.decreases-build_arguments
decreases-build_arguments g l = 3 * most size-Node l.args.now + 1

abbrev pub invariant-build_arguments-loop-index : goal.invariant-build_arguments-loop-index
invariant-build_arguments-loop-index g l = record {
  trees : map tree_of l.nodes ≡ each (λ i arg. import_of (import_rule l.rule (g.K.Kinds.table l.kinds)) (wants_one l.rule (g.K.Kinds.table l.kinds) l.fn.kind (shapes (g.K.Kinds.table l.kinds) (forest (map tree_of l.arg-items))) i) (tree_of arg)) (take l.index l.arg-items);
  next : l.next ≡ l.at + length (argument_decisions l.rule (g.K.Kinds.table l.kinds) (wants_one l.rule (g.K.Kinds.table l.kinds) l.fn.kind (shapes (g.K.Kinds.table l.kinds) (forest (map tree_of l.arg-items)))) (forest (map tree_of (take l.index l.arg-items))));
  within : l.next ≤ length l.decided;
}
