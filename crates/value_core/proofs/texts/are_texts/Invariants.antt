-- What was compared so far is alike in both.
use Rattle.std.proofs.Common.{◌≡◌, take}
use Rattle.value_core.proofs.texts.are_texts.Given as goal

abbrev pub invariant-loop-index : goal.invariant-loop-index
invariant-loop-index l = take l.index l.texts ≡ take l.index l.others
