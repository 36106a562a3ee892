use Rattle.answer_core.proofs.Runs.{complete}
use Rattle.answer_core.proofs.program.run.Goals as goal

pub returns-in-Err-clause-complete : goal.returns-in-Err-clause-complete
returns-in-Err-clause-complete g c fed quiet heard =
    complete _ _ _ _ c.in-Err.refusal _ _ _ c.from_words.ensures c.status.ensures c.in-Err.ensures.refusal c.send-in-Err.ensures fed quiet heard
