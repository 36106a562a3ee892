use Rattle.tree_core.proofs.Preorders.{nodes_counted}
use Rattle.tree_core.proofs.laws.nodes_are_counted.Goals as goal

pub returns : goal.returns
returns c = nodes_counted
