use Rattle.split_core.proofs.Joined.{are-cut}
use Rattle.split_core.proofs.laws.pieces_are_cut.Goals as goal

pub returns : goal.returns
returns c = λ blind delimiters text h. are-cut blind delimiters text h
