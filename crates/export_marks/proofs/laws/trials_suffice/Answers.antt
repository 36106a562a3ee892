use Rattle.export_marks.proofs.Tells.{exact_by}
use Rattle.export_marks.proofs.laws.trials_suffice.Goals as goal

pub returns : goal.returns
returns c = λ which table lawful add import formula. exact_by which table lawful.monotone add import formula
