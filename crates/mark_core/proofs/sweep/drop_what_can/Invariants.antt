use Rattle.std.proofs.Common.{◌+◌, ◌*◌, ◌≤◌, List, length}
use Rattle.tree_core.specs.Place.{Place}
use Rattle.mark_core.specs.Mark.{ats_in, calls_in}
use Rattle.mark_core.specs.Sweep.{Follows}
use Rattle.mark_core.proofs.sweep.drop_what_can.Given as goal

abbrev pub invariant-sweeps : goal.invariant-sweeps
invariant-sweeps g l =
    ((done : List Place) × Follows l.rule (g.K.Kinds.table l.kinds) l.wanted l.initial.mark l.mark done)
    × (l.steps + ats_in l.mark * (length l.places * calls_in l.initial.mark + calls_in l.initial.mark)
    ≤ l.initial.steps + ats_in l.initial.mark * (length l.places * calls_in l.initial.mark + calls_in l.initial.mark))

abbrev pub decreases-sweeps : goal.decreases-sweeps
decreases-sweeps g l = ats_in l.mark
