use Rattle.import_core.proofs.Exists
use Rattle.import_core.proofs.laws.import_is_a_function.Goals as goal

pub returns : goal.returns
returns c = Exists.import_is_a_function
