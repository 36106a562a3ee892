-- Kept are the positions so far whose key comes once.
use Rattle.std.proofs.Common.{◌≡◌}
use Rattle.std.specs.List.{filter, range_with_len}
use Rattle.key_core.specs.Kept.{is_only}
use Rattle.key_core.proofs.positions.only_positions.Given as goal

abbrev pub invariant-loop-index : goal.invariant-loop-index
invariant-loop-index l = l.kept.items ≡ filter (is_only l.keys) (range_with_len 0 l.index)
