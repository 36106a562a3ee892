-- The request of a number is valid and small, and so are its import and its export.
use Rattle.std.proofs.Common.{ap, arith, subst, ◌∙◌, ◌≤◌}
use Rattle.std.proofs.lemmas.Result.{err_from_is_err_and}
use Rattle.generator_core.specs.Line.{summary_line}
use Rattle.request_core.specs.Request.{Asked, asked_of}
use Rattle.tree_core.specs.Count.{size_of}
use Rattle.tree_core.specs.Formula.{tree_of}
use Rattle.answer_core.specs.Run.{AnswersRequest}
use Rattle.answer_core.proofs.Generated.{exported-few, few-cells, few-nodes, imported-few, only-memory}
use Rattle.answer_core.proofs.reading.generated_line.Goals as goal

pub returns-in_err-answer-clause-refusal : goal.returns-in_err-answer-clause-refusal
returns-in_err-answer-clause-refusal c =
    let exit = err_from_is_err_and c.from_residual.result c.from_residual.ensures.1 in
    rw (exit.1, exit.2) (only-memory c.args.seed (asked_of c.args.request.now) c.in_err-answer.field-0.0 c.requires c.in_err-answer.ensures.refusal)

pub summary_line-requires-clause-imported : goal.summary_line-requires-clause-imported
summary_line-requires-clause-imported c =
    let few : size_of (tree_of c.in_ok-answer.answer.imported) ≤ 276 =
    imported-few _ _ _ c.in_ok-answer.ensures.answers.import (few-nodes c.args.seed (asked_of c.args.request.now) c.requires) in
    omega (arith, few)

pub summary_line-requires-clause-exported : goal.summary_line-requires-clause-exported
summary_line-requires-clause-exported c =
    let few : size_of (tree_of c.in_ok-answer.answer.exported) ≤ 276 =
    exported-few _ _ c.in_ok-answer.ensures.answers.export.dropped
    (imported-few _ _ _ c.in_ok-answer.ensures.answers.import (few-nodes c.args.seed (asked_of c.args.request.now) c.requires)) in
    omega (arith, few)

pub returns-clause-line : goal.returns-clause-line
returns-clause-line c = record {
  answer = c.in_ok-answer.answer;
  answers = subst (λ (request : Asked). AnswersRequest request c.in_ok-answer.answer) c.requires c.in_ok-answer.ensures.answers;
  text_is = c.in_ok-line.ensures ∙ ap (λ (request : Asked). summary_line request.formula c.in_ok-answer.answer) c.requires;
}

pub answer_to-requires : goal.answer_to-requires
answer_to-requires c = record {
  nodes = let few = few-nodes c.args.seed (asked_of c.args.request.now) c.requires in omega (arith, few);
  cells = few-cells c.args.seed (asked_of c.args.request.now) c.requires;
}
