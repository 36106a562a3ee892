-- The tokens of the key and of the number.
use Rattle.std.proofs.Common.{rules, ◌≡◌, [], ◌∷◌, codes, to_z, of_z, w32, w64}
use Rattle.json.specs.Token.{key}
use Rattle.value_json.specs.Piece.{data_tokens, whole}
use Rattle.unit_json.proofs.Tokens.{two-behind}
use Rattle.unit_json.proofs.unit.write_precision.Goals as goal

pub returns : goal.returns
returns c = record {
  before = search rules;
  tokens =
      let narrow : to_z w32 (of_z w32 c.args.digits.precision) ≡ c.args.digits.precision = search rules in
      let wide : to_z w64 (of_z w64 c.args.digits.precision) ≡ c.args.digits.precision = search rules in
      rw (c.in_ok-write_whole.ensures.tokens, c.in_ok-key.ensures.ok, c.from.ensures, narrow, wide)
      (two-behind c.args.writer.now.tokens (key (codes "precision") ∷ []) (data_tokens (whole c.args.digits.precision)));
}
