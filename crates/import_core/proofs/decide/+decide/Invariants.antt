-- What is decided goes on to the parts of a node, and from a call to the deepest of its arguments.
use Rattle.std.proofs.Common.{◌≡◌, ◌++◌, map, ◌+◌, ◌*◌, ◌≤◌, drop, take}
use denote.Param.Weighed.{most}
use Rattle.tree_core.specs.Count.{calls_of_all}
use Rattle.tree_core.specs.Formula.{tree_of}
use Rattle.tree_core.specs.Tree.{forest}
use Rattle.tree_core.specs.declared.node.Node.{size-Node}
use Rattle.shape_core.specs.Shape.{shape, shapes}
use Rattle.import_core.specs.After.{after, wants_one}
use Rattle.import_core.specs.Arguments.{each}
use Rattle.import_core.specs.Decisions.{argument_decisions}
use Rattle.import_core.proofs.decide.+decide.Given as goal

abbrev pub decreases-decide : goal.decreases-decide
decreases-decide g l = 4 * size-Node l.node.now

abbrev pub decreases-decide_call : goal.decreases-decide_call
decreases-decide_call g l = 4 * most size-Node l.args.now + 3

abbrev pub decreases-decide_arguments : goal.decreases-decide_arguments
decreases-decide_arguments g l = 4 * most size-Node l.args.now + 2

abbrev pub decreases-decide_argument : goal.decreases-decide_argument
decreases-decide_argument g l = 4 * size-Node l.arg.now + 1

abbrev pub invariant-decide_arguments-loop-index : goal.invariant-decide_arguments-loop-index
invariant-decide_arguments-loop-index g l = record {
  given : l.given.items ≡ map (λ arg. shape (g.K.Kinds.table l.kinds) (tree_of arg)) (take l.index l.arg-items);
  imported : l.imported.items ≡ each (λ i arg. after l.rule (g.K.Kinds.table l.kinds) (wants_one l.rule (g.K.Kinds.table l.kinds) l.kind (shapes (g.K.Kinds.table l.kinds) (forest (map tree_of l.arg-items))) i) (tree_of arg)) (take l.index l.arg-items);
  decided : l.decided.items ≡ l.initial.decided.items ++ argument_decisions l.rule (g.K.Kinds.table l.kinds) (wants_one l.rule (g.K.Kinds.table l.kinds) l.kind (shapes (g.K.Kinds.table l.kinds) (forest (map tree_of l.arg-items)))) (forest (map tree_of (take l.index l.arg-items)));
  counted : l.steps + 2 * calls_of_all (forest (map tree_of (drop l.index l.arg-items))) ≤ l.initial.steps + 2 * calls_of_all (forest (map tree_of l.arg-items));
}
