-- What is made goes on to the parts of a node, and from a call to the deepest of its arguments.
use Rattle.std.proofs.Common.{◌≡◌, map, ◌+◌, ◌*◌, ◌≤◌, drop, take}
use denote.Param.Weighed.{most}
use Rattle.tree_core.specs.Count.{calls_of_all}
use Rattle.tree_core.specs.Formula.{tree_of}
use Rattle.tree_core.specs.Tree.{forest}
use Rattle.tree_core.specs.declared.node.Node.{size-Node}
use Rattle.shape_core.specs.Shape.{shapes}
use Rattle.import_core.specs.After.{after, wants_one}
use Rattle.import_core.specs.Arguments.{each}
use Rattle.export_marks.specs.Trial.{settle}
use Rattle.import_marks.specs.Made.{parts_of}
use Rattle.import_marks.proofs.making.+make.Given as goal

abbrev pub decreases-make : goal.decreases-make
decreases-make g l = 4 * size-Node l.node.now

abbrev pub decreases-make_call : goal.decreases-make_call
decreases-make_call g l = 4 * most size-Node l.args.now + 3

abbrev pub decreases-make_arguments : goal.decreases-make_arguments
decreases-make_arguments g l = 4 * most size-Node l.args.now + 2

abbrev pub decreases-make_argument : goal.decreases-make_argument
decreases-make_argument g l = 4 * size-Node l.arg.now + 1

abbrev pub invariant-make_arguments-loop-index : goal.invariant-make_arguments-loop-index
invariant-make_arguments-loop-index g l = record {
  parts : l.parts ≡ parts_of l.rule (g.K.Kinds.table l.kinds) (forest (map tree_of (take l.index l.arg-items)));
  imported : l.imported ≡ each (λ i arg. after l.rule (g.K.Kinds.table l.kinds) (wants_one l.rule (g.K.Kinds.table l.kinds) l.kind (shapes (g.K.Kinds.table l.kinds) (forest (map tree_of l.arg-items))) i) (tree_of arg)) (take l.index l.arg-items);
  settled : l.settled ≡ settle l.rule (g.K.Kinds.table l.kinds) (wants_one l.rule (g.K.Kinds.table l.kinds) l.kind (shapes (g.K.Kinds.table l.kinds) (forest (map tree_of l.arg-items)))) (forest (map tree_of (take l.index l.arg-items)));
  counted : l.steps + 2 * calls_of_all (forest (map tree_of (drop l.index l.arg-items))) ≤ l.initial.steps + 2 * calls_of_all (forest (map tree_of l.arg-items));
}
