use Rattle.std.proofs.Common.{arith, ◌≡◌, ◌∷◌}
use Rattle.json.specs.Token.{Token}
use Rattle.straight_json.proofs.Fields.{unsigned-field}
use Rattle.straight_json.proofs.field.take_u32.Goals as goal

pub returns-in-Some : goal.returns-in-Some
returns-in-Some c =
    let e : c.args.reader.now ≡ Token.number c.in-Some-Number.text.now ∷ c.next.new.self = grind arith in
    unsigned-field c.args.reader.now c.next.new.self c.in-Some-Number.text.now c.in-Some.whole e c.in-Some.ensures (omega arith)
