use Rattle.std.proofs.Common.{ap, ◌∙◌}
use Rattle.key_core.specs.Key.{key_of}
use Rattle.kept_ops.specs.Lines.{line_element}
use Rattle.kept_ops.proofs.Listed.{mapped-more}
use Rattle.kept_ops.proofs.uniqueness.line_key.Goals as goal

pub loop-place-preserved : goal.loop-place-preserved
loop-place-preserved c =
    mapped-more key_of (line_element c.args.lines.now.by_column c.args.lines.now.grid.now c.args.line) c.loop-place.place c.loop-place.row c.push.new.self c.in_ok-key.key
    c.loop-place.invariant c.in_ok-push.ensures.done (c.in_ok-key.ensures ∙ ap key_of c.get.ensures)
