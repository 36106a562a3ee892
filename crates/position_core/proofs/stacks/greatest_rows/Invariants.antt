use Rattle.std.proofs.Common.{◌≡◌, max, drop}
use Rattle.position_core.specs.Sized.{greatest_rows}
use Rattle.position_core.proofs.stacks.greatest_rows.Given as goal

abbrev pub invariant-loop-size : goal.invariant-loop-size
invariant-loop-size l = max l.greatest (greatest_rows (drop l.size-index l.sizes)) ≡ greatest_rows l.sizes
