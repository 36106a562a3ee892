-- What is left of the elements gives what the elements give.
use Rattle.std.proofs.Common.{◌≡◌, false, drop}
use Rattle.kind_values.specs.Counting.{fold_ok, with_counted}
use Rattle.kind_values.proofs.counting.with_elements.Given as goal

abbrev pub invariant-loop-element : goal.invariant-loop-element
invariant-loop-element l = fold_ok (with_counted l.counting false) l.numbers.items (drop l.element-index l.elements)
    ≡ fold_ok (with_counted l.counting false) l.fn.before.items l.elements
