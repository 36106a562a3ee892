-- The keys so far are counted.
use Rattle.std.proofs.Common.{take}
use Rattle.key_core.specs.Counted.{IsCounted}
use Rattle.key_core.proofs.positions.counted.Given as goal

abbrev pub invariant-loop-index : goal.invariant-loop-index
invariant-loop-index l = IsCounted l.counts (take l.index l.keys)
