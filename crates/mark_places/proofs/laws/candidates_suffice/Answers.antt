use Rattle.mark_places.proofs.Covers.{settled-all}
use Rattle.mark_places.proofs.laws.candidates_suffice.Goals as goal

pub returns : goal.returns
returns c = settled-all
