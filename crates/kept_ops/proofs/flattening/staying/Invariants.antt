-- The elements of the lines so far that stay.
use Rattle.std.proofs.Common.{◌≡◌, map}
use Rattle.std.specs.List.{filter, flat_map}
use Rattle.rectangle_core.specs.Rectangle.{tabulate}
use Rattle.kept_ops.specs.Flatten.{stays}
use Rattle.kept_ops.specs.Lines.{one_line}
use Rattle.kept_ops.proofs.flattening.staying.Given as goal

abbrev pub invariant-loop-line : goal.invariant-loop-line
invariant-loop-line l = map (λ e. e.now) l.kept.items ≡ filter (stays l.ignore) (flat_map (λ line. line) (tabulate l.line (one_line l.lines.by_column l.lines.grid.now)))
