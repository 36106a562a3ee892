use Rattle.std.proofs.lemmas.Result.{err_from_is_err_and}
use Rattle.request_core.specs.Request.{asked_of}
use Rattle.answer_core.specs.Run.{trace}
use Rattle.answer_core.proofs.Runs.{refused}
use Rattle.answer_core.proofs.reading.answer.Goals as goal

pub returns-clause-line : goal.returns-clause-line
returns-clause-line g c = record {
  request = asked_of c.in_ok-request.request;
  given = c.in_ok-request.ensures.given;
  answer = c.in_ok-answer.answer;
  answers = c.in_ok-answer.ensures.answers;
  text_is = c.in_ok-line.ensures;
}

pub returns-in_err-answer-clause-refusal : goal.returns-in_err-answer-clause-refusal
returns-in_err-answer-clause-refusal g c =
    let exit = err_from_is_err_and c.from_residual-in_err-answer.result c.from_residual-in_err-answer.ensures.1 in
    rw (exit.1, exit.2) (refused
    (trace (g.S.Source.unread c.args.source.now) (g.S.Source.unread c.asked.new.source) (g.S.Source.faults c.args.source.now) (g.S.Source.faults c.asked.new.source))
    (asked_of c.in_ok-request.request) c.in_err-answer.field-0.0 c.in_ok-request.ensures.given c.in_err-answer.ensures.refusal)
