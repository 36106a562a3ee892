use Rattle.std.proofs.Common.{◌&&◌, ap, ◌∙◌}
use Rattle.kept_ops.specs.Lines.{line_element}
use Rattle.kept_ops.specs.Trim.{is_blank}
use Rattle.kept_ops.proofs.Listed.{all-more}
use Rattle.kept_ops.proofs.trimming.is_blank_line.Goals as goal

pub loop-place-preserved : goal.loop-place-preserved
loop-place-preserved c =
    all-more is_blank (line_element c.args.lines.now.by_column c.args.lines.now.grid.now c.args.line) c.loop-place.place c.loop-place.all _
    c.loop-place.invariant (ap (λ blank. c.loop-place.all && blank) (c.is_blank-all.ensures ∙ ap is_blank c.get.ensures))
