use Rattle.std.proofs.Common.{◌≡◌, ◌+◌, ◌<◌, ◌^◌, drop}
use Rattle.position_core.specs.Sized.{total_rows}
use Rattle.position_core.proofs.stacks.total_rows.Given as goal

abbrev pub invariant-loop-size : goal.invariant-loop-size
invariant-loop-size l = record {
  sum : l.total + total_rows (drop l.size-index l.sizes) ≡ total_rows l.sizes;
  fits : l.total < 2 ^ 64;
}
