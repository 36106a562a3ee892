use Rattle.array_laws.proofs.Stacked.{taken-dropped}
use Rattle.array_laws.proofs.laws.array_is_taken_and_dropped_rows.Goals as goal

pub returns : goal.returns
returns c = taken-dropped
