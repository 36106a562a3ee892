-- The lines so far are blank.
use Rattle.std.proofs.Common.{◌≡◌, ◌+◌, drop}
use Rattle.std.specs.List.{prefix_len}
use Rattle.kept_ops.specs.Trim.{itself}
use Rattle.kept_ops.proofs.trimming.leading.Given as goal

abbrev pub invariant-loop-index : goal.invariant-loop-index
invariant-loop-index l = prefix_len itself l.blanks ≡ l.index + prefix_len itself (drop l.index l.blanks)
