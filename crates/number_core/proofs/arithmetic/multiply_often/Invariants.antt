-- What is left to multiply gives what the whole gives.
use Rattle.std.proofs.Common.{◌≡◌, ◌-◌}
use Rattle.number_core.specs.Number.{multiplied}
use Rattle.number_core.proofs.arithmetic.multiply_often.Given as goal

abbrev pub invariant-loop-step : goal.invariant-loop-step
invariant-loop-step l = multiplied l.base (l.count - l.step) l.value ≡ multiplied l.base l.count l.first
