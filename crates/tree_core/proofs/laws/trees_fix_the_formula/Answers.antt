use Rattle.tree_core.proofs.Readback.{one_tree}
use Rattle.tree_core.proofs.laws.trees_fix_the_formula.Goals as goal

pub returns : goal.returns
returns c = one_tree
