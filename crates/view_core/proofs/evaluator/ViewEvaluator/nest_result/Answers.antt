use Rattle.std.proofs.Common.{map}
use Rattle.tree_core.specs.Formula.{tree_of}
use Rattle.tree_core.specs.Tree.{forest}
use Rattle.eval_core.specs.Setting.{setting}
use Rattle.view_core.proofs.Filled.{filled-call}
use Rattle.view_core.proofs.evaluator.ViewEvaluator.nest_result.Goals as goal

pub returns-in-Ok-clause-found : goal.returns-in-Ok-clause-found
returns-in-Ok-clause-found g c =
    let evaluator = c.args.self.now in
    filled-call (setting (g.K.Kinds.table evaluator.kinds.now) (g.B.Book.contents evaluator.book.now) evaluator.limit c.args.cell) (tree_of c.args.node.now)
    c.in-Call.kind (forest (map tree_of c.in-Call.args.now)) c.in-Ok.grid c.in-Call.ensures.tree c.requires (rw c.in-Ok.is at c.in_ok-grid-in-Call.ensures.comes)
