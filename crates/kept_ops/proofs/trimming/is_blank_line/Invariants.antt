-- Whether the elements so far are blank.
use Rattle.std.proofs.Common.{◌≡◌}
use Rattle.std.specs.List.{list_all}
use Rattle.rectangle_core.specs.Rectangle.{tabulate}
use Rattle.kept_ops.specs.Lines.{line_element}
use Rattle.kept_ops.specs.Trim.{is_blank}
use Rattle.kept_ops.proofs.trimming.is_blank_line.Given as goal

abbrev pub invariant-loop-place : goal.invariant-loop-place
invariant-loop-place l = l.all ≡ list_all is_blank (tabulate l.place (line_element l.lines.by_column l.lines.grid.now l.line))
