-- The keys of the elements so far.
use Rattle.std.proofs.Common.{◌≡◌, map}
use Rattle.rectangle_core.specs.Rectangle.{tabulate}
use Rattle.key_core.specs.Key.{key_of}
use Rattle.kept_ops.specs.Lines.{line_element}
use Rattle.kept_ops.proofs.uniqueness.line_key.Given as goal

abbrev pub invariant-loop-place : goal.invariant-loop-place
invariant-loop-place l = l.row ≡ map key_of (tabulate l.place (line_element l.lines.by_column l.lines.grid.now l.line))
