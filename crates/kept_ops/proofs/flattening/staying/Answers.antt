use Rattle.std.proofs.Common.{map}
use Rattle.kept_ops.specs.Flatten.{stays}
use Rattle.kept_ops.specs.Lines.{one_line}
use Rattle.kept_ops.proofs.Listed.{scan-more}
use Rattle.kept_ops.proofs.flattening.staying.Goals as goal

pub loop-line-preserved : goal.loop-line-preserved
loop-line-preserved c =
    scan-more (stays c.args.ignore) (one_line c.args.lines.now.by_column c.args.lines.now.grid.now) c.loop-line.line
    (map (λ e. e.now) c.loop-line.kept.items) _ c.loop-line.invariant c.in_ok-add_staying.ensures
