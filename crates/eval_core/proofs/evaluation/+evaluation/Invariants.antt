-- The evaluation of arguments goes on to the deepest of them, after the call that has them.
use Rattle.std.proofs.Common.{◌≡◌, map, ◌+◌, ◌*◌, take}
use denote.Param.Weighed.{most}
use Rattle.tree_core.specs.Formula.{tree_of}
use Rattle.tree_core.specs.declared.node.Node.{size-Node}
use Rattle.eval_core.specs.Meaning.{found_of}
use Rattle.eval_core.specs.Setting.{setting}
use Rattle.eval_core.proofs.evaluation.+evaluation.Given as goal

abbrev pub decreases-found_of : goal.decreases-found_of
decreases-found_of g l = 2 * size-Node l.node.now

abbrev pub decreases-found_all : goal.decreases-found_all
decreases-found_all g l = 2 * most size-Node l.args.now + 1

abbrev pub invariant-found_all-loop-arg : goal.invariant-found_all-loop-arg
invariant-found_all-loop-arg g l =
    l.all.items ≡ map (λ arg. found_of (setting (g.K.Kinds.table l.evaluator.kinds.now) (g.B.Book.contents l.evaluator.book.now) l.evaluator.limit l.cell) (tree_of arg)) (take l.arg-index l.arg-items)
