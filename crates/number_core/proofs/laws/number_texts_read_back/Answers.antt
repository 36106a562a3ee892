use Rattle.number_core.proofs.Back.{read-back}
use Rattle.number_core.proofs.laws.number_texts_read_back.Goals as goal

pub returns : goal.returns
returns c = read-back c.args.number c.ranges.number
