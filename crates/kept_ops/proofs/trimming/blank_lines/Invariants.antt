-- Of the lines so far, whether they are blank throughout.
use Rattle.std.proofs.Common.{◌≡◌}
use Rattle.std.specs.List.{list_all}
use Rattle.rectangle_core.specs.Rectangle.{tabulate}
use Rattle.kept_ops.specs.Lines.{one_line}
use Rattle.kept_ops.specs.Trim.{is_blank}
use Rattle.kept_ops.proofs.trimming.blank_lines.Given as goal

abbrev pub invariant-loop-line : goal.invariant-loop-line
invariant-loop-line l = l.blanks.items ≡ tabulate l.line (λ i. list_all is_blank (one_line l.lines.by_column l.lines.grid.now i))
