use Rattle.std.proofs.Common.{arith}
use Rattle.rectangle_core.proofs.Fills.{row-more}
use Rattle.rectangle_core.proofs.view.push_row.Goals as goal

pub loop-column-preserved : goal.loop-column-preserved
loop-column-preserved g c = record {
  made = row-more (g.V.View.element c.args.view.now c.args.row) _ _ _ _ c.loop-column.column c.loop-column.invariant.made c.in_ok-push.ensures.items c.in_ok-element.ensures.value;
  counted = omega (arith, c.in_ok-element.ensures.counted, c.loop-column.invariant.counted);
}
