use Rattle.straight_json.proofs.Leaves.{text-tagged}
use Rattle.straight_json.proofs.leaf.read_text.Goals as goal

pub returns : goal.returns
returns c depth = text-tagged depth c.args.reader.now c.take_text.new.reader c.take_end.new.reader c.in_ok-text.text c.in_ok-text.ensures c.in_ok-take_end.ensures
