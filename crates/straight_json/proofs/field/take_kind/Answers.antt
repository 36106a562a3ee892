use Rattle.std.proofs.Common.{arith, ◌≡◌, ◌∷◌, sym}
use Rattle.json.specs.Token.{Token}
use Rattle.straight_json.proofs.Fields.{kind-field}
use Rattle.straight_json.proofs.field.take_kind.Goals as goal

pub returns-in-Some : goal.returns-in-Some
returns-in-Some c =
    let e : c.args.reader.now ≡ Token.string c.in-Some-String.name.now ∷ c.next.new.self = grind arith in
    kind-field c.args.reader.now c.next.new.self c.in-Some-String.name.now c.in-Some.kind e (sym c.in-Some.ensures)
