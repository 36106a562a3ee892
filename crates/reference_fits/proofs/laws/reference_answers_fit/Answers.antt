use Rattle.reference_fits.proofs.Law.{references-fit}
use Rattle.reference_fits.proofs.laws.reference_answers_fit.Goals as goal

pub returns : goal.returns
returns c = references-fit
