use Rattle.key_core.specs.Key.{row_key_of}
use Rattle.kept_ops.specs.Lines.{one_line}
use Rattle.kept_ops.proofs.Listed.{tabulate-more}
use Rattle.kept_ops.proofs.uniqueness.line_keys.Goals as goal

pub loop-line-preserved : goal.loop-line-preserved
loop-line-preserved c =
    tabulate-more (λ i. row_key_of (one_line c.args.lines.now.by_column c.args.lines.now.grid.now i)) c.loop-line.line c.loop-line.keys.items c.push.new.self.items c.in_ok-key.key
    c.loop-line.invariant c.in_ok-push.ensures.items c.in_ok-key.ensures
