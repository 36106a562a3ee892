-- The elements so far that stay, behind those that were there.
use Rattle.std.proofs.Common.{◌≡◌, ◌++◌, map}
use Rattle.std.specs.List.{filter}
use Rattle.rectangle_core.specs.Rectangle.{tabulate}
use Rattle.kept_ops.specs.Flatten.{stays}
use Rattle.kept_ops.specs.Lines.{line_element}
use Rattle.kept_ops.proofs.flattening.add_staying.Given as goal

abbrev pub invariant-loop-place : goal.invariant-loop-place
invariant-loop-place l =
    map (λ e. e.now) l.kept.items ≡ map (λ e. e.now) l.initial.kept.items ++ filter (stays l.ignore) (tabulate l.place (line_element l.lines.by_column l.lines.grid.now l.line))
