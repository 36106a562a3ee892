use Rattle.tree_core.proofs.Places
use Rattle.tree_core.proofs.laws.runs_fix_the_tree.Goals as goal

pub returns : goal.returns
returns c = Places.runs_fix_the_tree
