use Rattle.straight_json.proofs.Leaves.{variable-tagged}
use Rattle.straight_json.proofs.leaf.read_variable.Goals as goal

pub returns : goal.returns
returns c depth =
    variable-tagged depth c.args.reader.now c.take_text.new.reader c.take_id.new.reader c.take_end.new.reader c.in_ok-name.name c.in_ok-id.id c.in_ok-name.ensures c.in_ok-id.ensures c.in_ok-take_end.ensures
