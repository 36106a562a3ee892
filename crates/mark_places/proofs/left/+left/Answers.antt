use Rattle.mark_places.proofs.Lefts.{left-step}
use Rattle.mark_places.proofs.left.+left.Goals as goal

-- src/left.rt:79:5
pub left_of_all-loop-index-preserved : goal.left_of_all-loop-index-preserved
left_of_all-loop-index-preserved t c =
    left-step c.as_slice-arg-items.result.now c.loop-index.index c.arg-item.result c.in_ok-part.part c.args.marks.now _ c.loop-index.left c.add.new.self
    c.loop-index-test.true c.arg-item.is c.get.ensures.element c.loop-index.invariant c.in_ok-part.ensures c.in_ok-add.ensures.done
