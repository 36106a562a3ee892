-- The tokens of the sign and of the other members, in an object.
use Rattle.std.proofs.Common.{rules, [], ◌∷◌, codes}
use Rattle.json.specs.Token.{begin_object, end_object, key, string}
use Rattle.unit_json.specs.Unit.{plain_tokens}
use Rattle.unit_json.proofs.Tokens.{four-behind}
use Rattle.unit_json.proofs.unit.write_money.Goals as goal

pub returns : goal.returns
returns c = record {
  before = search rules;
  tokens =
      rw (c.in_ok-end_object.ensures.ok, c.in_ok-write_parts.ensures.tokens, c.in_ok-write_text.ensures.tokens, c.in_ok-begin_object.ensures.ok)
      (four-behind c.args.writer.now.tokens (begin_object ∷ []) (key (codes "currency") ∷ string c.args.currency.now ∷ [])
      (plain_tokens c.args.digits (codes "Currency") c.args.num_fmt.now) (end_object ∷ []));
}
