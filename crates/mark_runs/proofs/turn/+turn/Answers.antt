use Rattle.std.proofs.Common.{sym}
use Rattle.mark_runs.proofs.Turns.{counted-set}
use Rattle.mark_runs.proofs.turn.+turn.Goals as goal

pub turn_part-returns-in-Some-clause-counted : goal.turn_part-returns-in-Some-clause-counted
turn_part-returns-in-Some-clause-counted g t c =
    counted-set c.args.marks.now c.args.index c.in-Some.mark.now c.turn.new.mark _ _ (sym c.in-Some.ensures.element) c.turn.ensures.counted
