-- The places so far that keep.
use Rattle.std.proofs.Common.{◌≡◌}
use Rattle.std.specs.List.{filter, range_with_len}
use Rattle.kept_ops.specs.Filter.{is_marked}
use Rattle.kept_ops.proofs.filtering.marked.Given as goal

abbrev pub invariant-loop-index : goal.invariant-loop-index
invariant-loop-index l = l.kept.items ≡ filter (is_marked l.mask) (range_with_len 0 l.index)
