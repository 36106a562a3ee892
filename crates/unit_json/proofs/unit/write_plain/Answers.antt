-- The tokens of the members, in an object.
use Rattle.std.proofs.Common.{rules, [], ◌∷◌}
use Rattle.json.specs.Token.{begin_object, end_object}
use Rattle.unit_json.specs.Unit.{plain_tokens}
use Rattle.unit_json.proofs.Tokens.{three-behind}
use Rattle.unit_json.proofs.unit.write_plain.Goals as goal

pub returns : goal.returns
returns c = record {
  before = search rules;
  tokens =
      rw (c.in_ok-end_object.ensures.ok, c.in_ok-write_parts.ensures.tokens, c.in_ok-begin_object.ensures.ok)
      (three-behind c.args.writer.now.tokens (begin_object ∷ []) (plain_tokens c.args.digits c.args.kind.now c.args.num_fmt.now) (end_object ∷ []));
}
