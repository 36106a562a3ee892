use Rattle.std.proofs.Common.{◌≡◌, max, drop}
use Rattle.position_core.specs.Sized.{greatest_columns}
use Rattle.position_core.proofs.stacks.greatest_columns.Given as goal

abbrev pub invariant-loop-size : goal.invariant-loop-size
invariant-loop-size l = max l.greatest (greatest_columns (drop l.size-index l.sizes)) ≡ greatest_columns l.sizes
