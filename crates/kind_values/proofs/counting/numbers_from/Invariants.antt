-- What is left of the values gives what the values give.
use Rattle.std.proofs.Common.{◌≡◌, [], drop}
use Rattle.kind_values.specs.Counting.{fold_ok, with_value}
use Rattle.kind_values.proofs.counting.numbers_from.Given as goal

abbrev pub invariant-loop-value : goal.invariant-loop-value
invariant-loop-value l = fold_ok (with_value l.counting) l.numbers.items (drop l.value-index l.values) ≡ fold_ok (with_value l.counting) [] l.values
