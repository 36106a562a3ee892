use Rattle.array_laws.proofs.Sides.{stacks-turn}
use Rattle.array_laws.proofs.laws.stacks_turn_over.Goals as goal

pub returns : goal.returns
returns c = stacks-turn
