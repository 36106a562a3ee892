use Rattle.export_marks.proofs.Tells.{turning}
use Rattle.export_marks.proofs.laws.turning_is_constant.Goals as goal

pub returns : goal.returns
returns c = λ which table lawful import formula. turning which table lawful.monotone import formula
