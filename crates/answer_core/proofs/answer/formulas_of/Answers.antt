use Rattle.tree_core.specs.Count.{calls_of}
use Rattle.tree_core.specs.Formula.{tree_of}
use Rattle.answer_core.proofs.Questions.{imported-calls, imported-ats, asked-export}
use Rattle.answer_core.proofs.answer.formulas_of.Goals as goal

pub returns-in_err-exported-clause-counted : goal.returns-in_err-exported-clause-counted
returns-in_err-exported-clause-counted g c =
    asked-export (calls_of (tree_of c.args.node.now)) _ _ _ _ _ _
    (imported-calls _ _ _ _ c.in_ok-imported.ensures.ok)
    (imported-ats _ _ _ _ c.in_ok-imported.ensures.ok)
    c.in_ok-imported.ensures.counted c.in_err-exported.ensures.counted

pub returns-clause-counted : goal.returns-clause-counted
returns-clause-counted g c =
    asked-export (calls_of (tree_of c.args.node.now)) _ _ _ _ _ _
    (imported-calls _ _ _ _ c.in_ok-imported.ensures.ok)
    (imported-ats _ _ _ _ c.in_ok-imported.ensures.ok)
    c.in_ok-imported.ensures.counted c.in_ok-exported.ensures.counted
