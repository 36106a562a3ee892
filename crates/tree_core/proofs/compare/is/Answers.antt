use Rattle.tree_core.proofs.Told.{told-one}
use Rattle.tree_core.proofs.compare.is.Goals as goal

pub returns : goal.returns
returns c = (λ h. (told-one _ _).0 (c.is_same.ensures.0 h), λ e. c.is_same.ensures.1 ((told-one _ _).1 e))
