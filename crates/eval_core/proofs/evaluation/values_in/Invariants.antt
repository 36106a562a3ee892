-- The values so far, and those of what is left.
use Rattle.std.proofs.Common.{◌≡◌, ◌++◌, map}
use Rattle.eval_core.specs.Meaning.{value_in}
use Rattle.eval_core.specs.Setting.{setting}
use Rattle.eval_core.proofs.evaluation.values_in.Given as goal

abbrev pub invariant-loop-arg : goal.invariant-loop-arg
invariant-loop-arg g l =
    l.values.items ++ map (value_in (setting (g.K.Kinds.table l.evaluator.kinds.now) (g.B.Book.contents l.evaluator.book.now) l.evaluator.limit l.cell)) l.arg-iterator.rest.items
    ≡ map (value_in (setting (g.K.Kinds.table l.evaluator.kinds.now) (g.B.Book.contents l.evaluator.book.now) l.evaluator.limit l.cell)) l.fn.args.items
