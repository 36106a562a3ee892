-- What was written is the object of the unit.
use Rattle.std.proofs.Common.{rules, ◌≡◌, to_z, of_z, w32}
use Rattle.unit_json.proofs.unit.write_some.Goals as goal

pub returns-in-Number : goal.returns-in-Number
returns-in-Number c =
    let narrow : to_z w32 (of_z w32 c.in-Number.precision) ≡ c.in-Number.precision = search rules in
    rw c.in-Number.is (rw (c.new-digits.ensures, narrow) at c.write_plain.ensures)

pub returns-in-Percentage : goal.returns-in-Percentage
returns-in-Percentage c =
    let narrow : to_z w32 (of_z w32 c.in-Percentage.precision) ≡ c.in-Percentage.precision = search rules in
    rw c.in-Percentage.is (rw (c.new-digits-in-Percentage.ensures, narrow) at c.write_plain-in-Percentage.ensures)
