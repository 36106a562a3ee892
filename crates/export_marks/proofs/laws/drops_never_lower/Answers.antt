use Rattle.export_marks.proofs.Tells.{never_lower}
use Rattle.export_marks.proofs.laws.drops_never_lower.Goals as goal

pub returns : goal.returns
returns c = λ which table lawful add import formula place. never_lower which table lawful.monotone add import formula place
