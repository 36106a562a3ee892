use Rattle.tree_core.specs.Formula.{tree_of}
use Rattle.mark_runs.proofs.Tells.{stands}
use Rattle.mark_runs.proofs.put.put_again.Goals as goal

pub returns-clause-told : goal.returns-clause-told
returns-clause-told g c which = stands which (g.K.Kinds.table c.args.kinds.now) (tree_of c.args.import.now) c.args.mark.now c.turn.new.mark c.turn.ensures.value
