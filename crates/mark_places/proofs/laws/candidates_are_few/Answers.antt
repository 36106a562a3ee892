use Rattle.mark_places.proofs.Counted.{candidates-few}
use Rattle.mark_places.proofs.laws.candidates_are_few.Goals as goal

pub returns : goal.returns
returns c = candidates-few
