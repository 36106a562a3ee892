-- The elements so far, behind those that were there.
use Rattle.std.proofs.Common.{◌≡◌, ◌≤◌, ◌+◌, ◌++◌}
use Rattle.rectangle_core.specs.Rectangle.{tabulate}
use Rattle.rectangle_core.proofs.view.push_row.Given as goal

abbrev pub invariant-loop-column : goal.invariant-loop-column
invariant-loop-column g l = record {
  made : l.cells.items ≡ l.initial.cells.items ++ tabulate l.column (g.V.View.element l.view l.row);
  counted : l.steps ≤ l.initial.steps + l.column;
}
