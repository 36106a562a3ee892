use Rattle.std.proofs.Common.{◌≡◌, drop}
use Rattle.position_core.specs.Check.{are_choices}
use Rattle.position_core.proofs.checks.are_choices.Given as goal

abbrev pub invariant-loop-number : goal.invariant-loop-number
invariant-loop-number l = are_choices (drop l.number-index l.numbers) l.total ≡ are_choices l.numbers l.total
