-- The first terms are summed.
use Rattle.std.proofs.Common.{◌≡◌}
use Rattle.tree_core.specs.Formula.{tree_of}
use Rattle.generator_core.specs.Formula.{total}
use Rattle.generator_core.proofs.formula.generated_formula.Given as goal

abbrev pub invariant-loop-k : goal.invariant-loop-k
invariant-loop-k l = tree_of l.sum ≡ total l.k
