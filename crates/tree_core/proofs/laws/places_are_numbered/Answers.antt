use Rattle.tree_core.proofs.Preorders.{places_numbered}
use Rattle.tree_core.proofs.laws.places_are_numbered.Goals as goal

pub returns : goal.returns
returns c = places_numbered
