use Rattle.json_laws.proofs.NodesBack.{reads_back}
use Rattle.json_laws.proofs.laws.written_formula_reads_back.Goals as goal

pub returns : goal.returns
returns c = reads_back
