-- What is copied so far is the first part of what was given.
use Rattle.std.proofs.Common.{◌≡◌, map, take}
use Rattle.value_core.proofs.array.clone_rows.Given as goal

abbrev pub invariant-loop-index : goal.invariant-loop-index
invariant-loop-index l = map (λ elements. elements.items) l.copy.items ≡ map (λ elements. elements.items) (take l.index l.rows)
