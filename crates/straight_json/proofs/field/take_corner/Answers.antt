use Rattle.std.proofs.Common.{sym, subst, rules, w32, SFits, to_z-of_z}
use Rattle.straight_json.specs.Straight.{IsCorner}
use Rattle.straight_json.proofs.field.take_corner.Goals as goal

pub returns : goal.returns
returns c =
    let row : SFits w32 c.in_ok-row.row = search rules in
    let column : SFits w32 c.in_ok-column.column = search rules in
    subst (λ corner. IsCorner c.args.reader.now corner c.take_i32-2.new.reader) (sym c.new.ensures)
    (rw (to_z-of_z row, to_z-of_z column)
    (c.take_truth.new.reader, c.take_truth-2.new.reader, c.take_i32.new.reader, c.in_ok-absolute_row.ensures, c.in_ok-absolute_column.ensures, c.in_ok-row.ensures, c.in_ok-column.ensures))
