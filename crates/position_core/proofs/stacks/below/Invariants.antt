-- What is left stands where it stood.
use Rattle.std.proofs.Common.{◌≡◌, drop}
use Rattle.position_core.specs.Position.{below}
use Rattle.position_core.proofs.stacks.below.Given as goal

abbrev pub invariant-loop-index : goal.invariant-loop-index
invariant-loop-index l = below (drop l.index l.sizes) l.index l.rest l.column ≡ below l.sizes 0 l.fn.row l.column
