-- What is left stands where it stood.
use Rattle.std.proofs.Common.{◌≡◌, drop}
use Rattle.position_core.specs.Position.{beside}
use Rattle.position_core.proofs.stacks.beside.Given as goal

abbrev pub invariant-loop-index : goal.invariant-loop-index
invariant-loop-index l = beside (drop l.index l.sizes) l.index l.row l.rest ≡ beside l.sizes 0 l.row l.fn.column
