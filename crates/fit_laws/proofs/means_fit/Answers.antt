use Rattle.fit_laws.proofs.Law.{means-fit}
use Rattle.fit_laws.proofs.means_fit.Goals as goal

pub returns : goal.returns
returns c = means-fit
