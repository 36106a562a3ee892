use Rattle.array_laws.proofs.Turned.{transposed-twice}
use Rattle.array_laws.proofs.laws.transpose_twice_is_the_array.Goals as goal

pub returns : goal.returns
returns c = transposed-twice
