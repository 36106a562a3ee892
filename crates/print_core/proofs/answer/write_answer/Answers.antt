-- The tokens of the parts, one after another, are those of the object.
use Rattle.std.proofs.Common.{rules}
use Rattle.print_core.proofs.Parts.{seven-parts}
use Rattle.print_core.proofs.answer.write_answer.Goals as goal

pub returns : goal.returns
returns c = record {
  before = search rules;
  tokens =
      rw (c.in_ok-end_object.ensures.ok, c.in_ok-write_display_unit.ensures.tokens, c.in_ok-write_value-2.ensures.tokens, c.in_ok-write_value.ensures.tokens, c.in_ok-write_shape-2.ensures.tokens, c.in_ok-write_formula-2.ensures.tokens, c.in_ok-write_shape.ensures.tokens, c.in_ok-write_formula.ensures.tokens, c.in_ok-begin_object.ensures.ok)
      (seven-parts _ _ _ _ _ _ _ _ _ _);
}
