use Rattle.std.proofs.Common.{rules, arith, ◌≡◌, ◌∷◌, w64, SFits, to_z-of_z}
use Rattle.json.specs.Token.{Token}
use Rattle.straight_json.proofs.Fields.{whole-field}
use Rattle.straight_json.proofs.field.take_i64.Goals as goal

pub returns-in-Some : goal.returns-in-Some
returns-in-Some c =
    let e : c.args.reader.now ≡ Token.number c.in-Some-Number.text.now ∷ c.next.new.self = grind arith in
    let fits : SFits w64 c.in-Some.whole = search rules in
    rw (to_z-of_z fits) (whole-field c.args.reader.now c.next.new.self c.in-Some-Number.text.now c.in-Some.whole e c.in-Some.ensures)
