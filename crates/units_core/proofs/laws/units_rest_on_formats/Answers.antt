use Rattle.units_core.proofs.Rests.{units-rest}
use Rattle.units_core.proofs.laws.units_rest_on_formats.Goals as goal

pub returns : goal.returns
returns c = units-rest
