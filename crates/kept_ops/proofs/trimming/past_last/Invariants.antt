-- Behind the last line so far that isn't blank, all so far are.
use Rattle.std.proofs.Common.{◌≡◌, ◌+◌, take}
use Rattle.std.specs.List.{suffix_len}
use Rattle.kept_ops.specs.Trim.{itself}
use Rattle.kept_ops.proofs.trimming.past_last.Given as goal

abbrev pub invariant-loop-index : goal.invariant-loop-index
invariant-loop-index l = l.stop + suffix_len itself (take l.index l.blanks) ≡ l.index
