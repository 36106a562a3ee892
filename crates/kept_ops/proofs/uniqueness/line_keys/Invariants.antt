-- The keys of the lines so far.
use Rattle.std.proofs.Common.{◌≡◌}
use Rattle.rectangle_core.specs.Rectangle.{tabulate}
use Rattle.key_core.specs.Key.{row_key_of}
use Rattle.kept_ops.specs.Lines.{one_line}
use Rattle.kept_ops.proofs.uniqueness.line_keys.Given as goal

abbrev pub invariant-loop-line : goal.invariant-loop-line
invariant-loop-line l = l.keys.items ≡ tabulate l.line (λ i. row_key_of (one_line l.lines.by_column l.lines.grid.now i))
