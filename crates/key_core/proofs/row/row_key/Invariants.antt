-- The keys of the elements so far.
use Rattle.std.proofs.Common.{◌≡◌, map, take}
use Rattle.key_core.specs.Key.{key_of}
use Rattle.key_core.proofs.row.row_key.Given as goal

abbrev pub invariant-loop-element : goal.invariant-loop-element
invariant-loop-element l = l.row ≡ map key_of (take l.element-index l.elements)
