-- What was compared so far is alike in both.
use Rattle.std.proofs.Common.{◌≡◌, take}
use Rattle.key_core.proofs.row.are_keys.Given as goal

abbrev pub invariant-loop-index : goal.invariant-loop-index
invariant-loop-index l = take l.index l.keys ≡ take l.index l.others
