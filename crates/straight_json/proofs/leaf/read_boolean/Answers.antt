use Rattle.straight_json.proofs.Leaves.{boolean-tagged}
use Rattle.straight_json.proofs.leaf.read_boolean.Goals as goal

pub returns : goal.returns
returns c depth = boolean-tagged depth c.args.reader.now c.take_truth.new.reader c.take_end.new.reader c.in_ok-truth.truth c.in_ok-truth.ensures c.in_ok-take_end.ensures
