use Rattle.std.specs.List.{list_all}
use Rattle.kept_ops.specs.Lines.{one_line}
use Rattle.kept_ops.specs.Trim.{is_blank}
use Rattle.kept_ops.proofs.Listed.{tabulate-more}
use Rattle.kept_ops.proofs.trimming.blank_lines.Goals as goal

pub loop-line-preserved : goal.loop-line-preserved
loop-line-preserved c =
    tabulate-more (λ i. list_all is_blank (one_line c.args.lines.now.by_column c.args.lines.now.grid.now i)) c.loop-line.line c.loop-line.blanks.items c.push.new.self.items c.is_blank_line.result
    c.loop-line.invariant c.in_ok-push.ensures.items c.is_blank_line.ensures
