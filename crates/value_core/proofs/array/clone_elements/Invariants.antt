-- What is copied so far is the first part of what was given.
use Rattle.std.proofs.Common.{◌≡◌, take}
use Rattle.value_core.proofs.array.clone_elements.Given as goal

abbrev pub invariant-loop-index : goal.invariant-loop-index
invariant-loop-index l = l.copy.items ≡ take l.index l.elements
