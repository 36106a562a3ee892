-- The rows so far are of that length.
use Rattle.std.proofs.Common.{◌≡◌, ◌==◌, drop, length}
use Rattle.std.specs.List.{list_all}
use Rattle.validity_core.proofs.good.are_even.Given as goal

abbrev pub invariant-loop-index : goal.invariant-loop-index
invariant-loop-index l = list_all (λ row. length row == l.columns) (drop l.index l.rows) ≡ list_all (λ row. length row == l.columns) l.rows
