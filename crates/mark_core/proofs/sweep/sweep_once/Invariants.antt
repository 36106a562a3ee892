use Rattle.std.proofs.Common.{◌+◌, ◌*◌, ◌≤◌}
use Rattle.mark_core.specs.Mark.{ats_in, calls_in}
use Rattle.mark_core.specs.Sweep.{IsSweep}
use Rattle.mark_core.proofs.sweep.sweep_once.Given as goal

abbrev pub invariant-loop-place : goal.invariant-loop-place
invariant-loop-place g l =
    IsSweep l.rule (g.K.Kinds.table l.kinds) l.wanted l.initial.mark l.mark l.places l.place-index l.dropped
    × (l.steps + ats_in l.mark * calls_in l.initial.mark ≤ l.initial.steps + (l.place-index + ats_in l.initial.mark) * calls_in l.initial.mark)
