-- No element so far is a text or an error.
use Rattle.std.proofs.Common.{◌≡◌, drop}
use Rattle.kept_ops.specs.Filter.{first_wrong}
use Rattle.kept_ops.proofs.filtering.first_wrong.Given as goal

abbrev pub invariant-loop-element : goal.invariant-loop-element
invariant-loop-element l = first_wrong (drop l.element-index l.elements) ≡ first_wrong l.elements
