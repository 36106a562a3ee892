-- What was compared so far is alike in both.
use Rattle.std.proofs.Common.{◌≡◌, map, take}
use Rattle.value_core.proofs.array.are_rows.Given as goal

abbrev pub invariant-loop-index : goal.invariant-loop-index
invariant-loop-index l = map (λ elements. elements.items) (take l.index l.rows) ≡ map (λ elements. elements.items) (take l.index l.others)
