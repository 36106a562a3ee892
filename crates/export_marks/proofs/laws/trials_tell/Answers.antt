use Rattle.export_marks.proofs.Tells.{trial_by}
use Rattle.export_marks.proofs.laws.trials_tell.Goals as goal

pub returns : goal.returns
returns c = λ which table lawful add import formula place. trial_by which table lawful.monotone add import formula place
