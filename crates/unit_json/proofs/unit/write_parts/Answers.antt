-- The tokens of the four members, one after another.
use Rattle.std.proofs.Common.{rules, [], ◌∷◌, codes}
use Rattle.json.specs.Token.{boolean, key, string}
use Rattle.value_json.specs.Piece.{data_tokens, whole}
use Rattle.unit_json.proofs.Tokens.{four-behind}
use Rattle.unit_json.proofs.unit.write_parts.Goals as goal

pub returns : goal.returns
returns c = record {
  before = search rules;
  tokens =
      rw (c.in_ok-write_precision.ensures.tokens, c.in_ok-write_text.ensures.tokens, c.in_ok-write_kind.ensures.tokens, c.in_ok-write_separator.ensures.tokens)
      (four-behind c.args.writer.now.tokens (key (codes "group_separator") ∷ boolean c.args.digits.group_separator ∷ []) (key (codes "kind") ∷ string c.args.kind.now ∷ [])
      (key (codes "num_fmt") ∷ string c.args.num_fmt.now ∷ []) (key (codes "precision") ∷ data_tokens (whole c.args.digits.precision)));
}
