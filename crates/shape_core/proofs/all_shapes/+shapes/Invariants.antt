-- The analysis of parts goes on to the deepest of them, after the node that has them.
use Rattle.std.proofs.Common.{◌≡◌, ◌++◌, map, ◌+◌, ◌*◌, ◌≤◌, drop, take}
use denote.Param.Weighed.{most}
use Rattle.tree_core.specs.Count.{calls_of_all}
use Rattle.tree_core.specs.Formula.{tree_of}
use Rattle.tree_core.specs.Preorder.{nodes_of_all}
use Rattle.tree_core.specs.Tree.{forest}
use Rattle.tree_core.specs.View.{parts_in}
use Rattle.tree_core.specs.declared.node.Node.{size-Node}
use Rattle.shape_core.specs.Shape.{shape}
use Rattle.shape_core.proofs.all_shapes.+shapes.Given as goal

abbrev pub decreases-push_shapes : goal.decreases-push_shapes
decreases-push_shapes g l = 3 * size-Node l.node.now + 1

abbrev pub decreases-push_shapes_below : goal.decreases-push_shapes_below
decreases-push_shapes_below g l = 3 * size-Node l.node.now

abbrev pub decreases-push_parts : goal.decreases-push_parts
decreases-push_parts g l = 3 * most size-Node (parts_in l.view) + 2

abbrev pub invariant-push_parts-loop-index : goal.invariant-push_parts-loop-index
invariant-push_parts-loop-index g l = record {
  shapes : l.found.items ≡ map (λ part. shape (g.K.Kinds.table l.kinds) (tree_of part)) (take l.index (parts_in l.view));
  row : l.all.items ++ map (shape (g.K.Kinds.table l.kinds)) (nodes_of_all (forest (map tree_of (drop l.index (parts_in l.view)))))
      ≡ l.initial.all.items ++ map (shape (g.K.Kinds.table l.kinds)) (nodes_of_all (forest (map tree_of (parts_in l.view))));
  counted : l.steps + calls_of_all (forest (map tree_of (drop l.index (parts_in l.view)))) ≤ l.initial.steps + calls_of_all (forest (map tree_of (parts_in l.view)));
}
