-- The sum so far, which is no further from 0 than so many of the greatest numbers.
use Rattle.std.proofs.Common.{◌≡◌, ◌*◌, ◌^◌, take, pos, neg_ℤ}
use Rattle.std.specs.Prelude.{◌≤ℤ◌}
use Rattle.kind_values.specs.Reckoning.{total}
use Rattle.kind_values.proofs.reckoning.total.Given as goal

abbrev pub invariant-loop-number : goal.invariant-loop-number
invariant-loop-number l = record {
  summed : l.total ≡ total (take l.number-index l.numbers);
  low : neg_ℤ (pos (l.number-index * 2 ^ 63)) ≤ℤ l.total;
  high : l.total ≤ℤ pos (l.number-index * 2 ^ 63);
}
