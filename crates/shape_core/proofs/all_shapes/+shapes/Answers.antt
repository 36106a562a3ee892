use Rattle.tree_core.specs.View.{parts_in}
use Rattle.shape_core.proofs.AllShapes.{rows-on, shapes-on, calls-next}
use Rattle.shape_core.proofs.all_shapes.+shapes.Goals as goal

pub push_parts-loop-index-preserved : goal.push_parts-loop-index-preserved
push_parts-loop-index-preserved g t c =
    let table = g.K.Kinds.table c.args.kinds.now in
    let parts = parts_in c.args.view in
    let i = c.loop-index.index in
    record {
      shapes = shapes-on table parts i c.part.result.now c.part.ensures _ _ _ c.in_ok-push.ensures.items c.loop-index.invariant.shapes c.in_ok-shape.ensures.value;
      row = rows-on table parts i c.part.result.now c.part.ensures _ _ _ c.in_ok-shape.ensures.row c.loop-index.invariant.row;
      counted = calls-next parts i c.part.result.now c.part.ensures _ _ _ c.in_ok-shape.ensures.counted c.loop-index.invariant.counted;
    }
