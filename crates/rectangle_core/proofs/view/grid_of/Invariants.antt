-- The rows so far.
use Rattle.std.proofs.Common.{◌≡◌, ◌≤◌, ◌+◌, ◌*◌}
use Rattle.rectangle_core.specs.Rectangle.{laid}
use Rattle.rectangle_core.proofs.view.grid_of.Given as goal

abbrev pub invariant-loop-row : goal.invariant-loop-row
invariant-loop-row g l = record {
  made : l.cells.items ≡ laid l.row l.columns (g.V.View.element l.view);
  counted : l.steps ≤ l.initial.steps + l.row * l.columns;
}
