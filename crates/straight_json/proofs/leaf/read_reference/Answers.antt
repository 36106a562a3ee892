use Rattle.std.proofs.Common.{rules, w32, SFits, to_z-of_z}
use Rattle.straight_json.proofs.Leaves.{reference-tagged}
use Rattle.straight_json.proofs.leaf.read_reference.Goals as goal

pub returns : goal.returns
returns c depth =
    let row : SFits w32 c.in_ok-corner.corner.row = search rules in
    let column : SFits w32 c.in_ok-corner.corner.column = search rules in
    rw (to_z-of_z row, to_z-of_z column)
    (reference-tagged depth c.args.reader.now c.take_u32.new.reader c.take_name.new.reader c.take_corner.new.reader c.take_end.new.reader c.in_ok-sheet_name.sheet_name c.in_ok-sheet_index.sheet_index c.in_ok-corner.corner
    c.in_ok-sheet_index.ensures c.in_ok-sheet_name.ensures c.in_ok-corner.ensures c.in_ok-take_end.ensures)
