use Rattle.std.proofs.Common.{rules, w64, SFits, to_z-of_z}
use Rattle.straight_json.proofs.Leaves.{number-tagged}
use Rattle.straight_json.proofs.leaf.read_number.Goals as goal

pub returns : goal.returns
returns c depth =
    let fits : SFits w64 c.in_ok-millionths.millionths = search rules in
    rw (to_z-of_z fits)
    (number-tagged depth c.args.reader.now c.take_i64.new.reader c.take_end.new.reader c.in_ok-millionths.millionths c.in_ok-millionths.ensures c.in_ok-take_end.ensures)
