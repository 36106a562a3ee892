-- The tokens of the two parts, one after the other, are those of the object.
use Rattle.std.proofs.Common.{rules}
use Rattle.print_core.proofs.Parts.{two-parts}
use Rattle.print_core.proofs.answer.write_formulas.Goals as goal

pub returns : goal.returns
returns c = record {
  before = search rules;
  tokens =
      rw (c.in_ok-end_object.ensures.ok, c.in_ok-write_formula-2.ensures.tokens, c.in_ok-write_formula.ensures.tokens, c.in_ok-begin_object.ensures.ok)
      (two-parts _ _ _ _ _);
}
