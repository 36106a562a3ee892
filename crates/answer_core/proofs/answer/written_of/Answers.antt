use Rattle.tree_core.specs.Count.{calls_of}
use Rattle.tree_core.specs.Formula.{tree_of}
use Rattle.answer_core.proofs.Questions.{asked-shapes, imported-calls}
use Rattle.answer_core.proofs.answer.written_of.Goals as goal

pub returns-in_err-shapes-clause-counted : goal.returns-in_err-shapes-clause-counted
returns-in_err-shapes-clause-counted g c =
    asked-shapes (calls_of (tree_of c.args.node.now)) _ _ _ _ _ (imported-calls _ _ _ _ c.in_ok-formulas.ensures.made.import)
    c.in_ok-formulas.ensures.counted c.in_err-shapes.ensures.counted

pub returns-clause-counted : goal.returns-clause-counted
returns-clause-counted g c =
    asked-shapes (calls_of (tree_of c.args.node.now)) _ _ _ _ _ (imported-calls _ _ _ _ c.in_ok-formulas.ensures.made.import)
    c.in_ok-formulas.ensures.counted c.in_ok-shapes.ensures.counted
