-- The analysis of arguments goes on to the deepest of them, after the call that has them.
use Rattle.std.proofs.Common.{◌≡◌, map, ◌+◌, ◌*◌, ◌≤◌, drop, take}
use denote.Param.Weighed.{most}
use Rattle.tree_core.specs.Count.{calls_of_all}
use Rattle.tree_core.specs.Formula.{tree_of}
use Rattle.tree_core.specs.Tree.{forest}
use Rattle.tree_core.specs.declared.node.Node.{size-Node}
use Rattle.shape_core.specs.Shape.{shape}
use Rattle.shape_core.proofs.analysis.+analysis.Given as goal

abbrev pub decreases-run_static_analysis_on_node : goal.decreases-run_static_analysis_on_node
decreases-run_static_analysis_on_node g l = 2 * size-Node l.node.now

abbrev pub decreases-shapes_of : goal.decreases-shapes_of
decreases-shapes_of g l = 2 * most size-Node l.args.now + 1

abbrev pub invariant-shapes_of-loop-arg : goal.invariant-shapes_of-loop-arg
invariant-shapes_of-loop-arg g l = record {
  shapes : l.found.items ≡ map (λ arg. shape (g.K.Kinds.table l.kinds) (tree_of arg)) (take l.arg-index l.arg-items);
  counted : l.steps + calls_of_all (forest (map tree_of (drop l.arg-index l.arg-items))) ≤ l.initial.steps + calls_of_all (forest (map tree_of l.arg-items));
}
