use Rattle.std.proofs.Common.{arith}
use Rattle.std.proofs.lemmas.Int.{ints}
use Rattle.reference_core.proofs.offset.last_line.Goals as goal

pub overflow_add-result-2 : goal.overflow_add-result-2
overflow_add-result-2 c = omega (arith, ints)

pub returns : goal.returns
returns c = omega (arith, ints, c.trunc.ensures)
