use Rattle.std.proofs.Common.{rules, w32, SFits, to_z-of_z}
use Rattle.straight_json.proofs.Leaves.{range-tagged}
use Rattle.straight_json.proofs.leaf.read_range.Goals as goal

pub returns : goal.returns
returns c depth =
    let row1 : SFits w32 c.in_ok-left.left.row = search rules in
    let column1 : SFits w32 c.in_ok-left.left.column = search rules in
    let row2 : SFits w32 c.in_ok-right.right.row = search rules in
    let column2 : SFits w32 c.in_ok-right.right.column = search rules in
    rw (to_z-of_z row1, to_z-of_z column1, to_z-of_z row2, to_z-of_z column2)
    (range-tagged depth c.args.reader.now c.take_u32.new.reader c.take_name.new.reader c.take_corner.new.reader c.take_corner-2.new.reader c.take_end.new.reader c.in_ok-sheet_name.sheet_name c.in_ok-sheet_index.sheet_index
    c.in_ok-left.left c.in_ok-right.right c.in_ok-sheet_index.ensures c.in_ok-sheet_name.ensures c.in_ok-left.ensures c.in_ok-right.ensures c.in_ok-take_end.ensures)
