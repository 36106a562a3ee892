use Rattle.std.proofs.Common.{◌≡◌, ◌+◌, ◌*◌, ◌≤◌, Some, if◌then◌else◌, length, slice_get, refl, sym, ap, ◌∙◌, subst}
use Rattle.std.proofs.lemmas.Option.{slice_get_read}
use Rattle.tree_core.specs.Place.{Place}
use Rattle.mark_core.specs.Drop.{can_drop, commit_of}
use Rattle.mark_core.specs.Mark.{ats_in, calls_in}
use Rattle.mark_core.specs.Sweep.{IsSweep}
use Rattle.mark_core.proofs.Sweeps.{follows-calls, sweep_on, sweep_paid, trial_paid}
use Rattle.mark_core.proofs.sweep.sweep_once.Goals as goal

pub loop-place-preserved : goal.loop-place-preserved
loop-place-preserved g c =
    let table = g.K.Kinds.table c.args.kinds.now in
    let wanted = c.args.wanted in
    let old = c.args.mark.now in
    let mark = c.loop-place.mark in
    let new = c.try_drop-went.new.mark in
    let went = c.try_drop-went.result in
    let at = c.loop-place.place-index in
    let place : Place = c.place-item.result in
    let sweep = c.loop-place.invariant.0 in
    let here : slice_get c.args.places.now at ≡ Some place = slice_get_read c.args.places.now (length c.args.places.now) at place refl c.loop-place-test.true c.place-item.is in
    let can : went ≡ can_drop c.args.rule table wanted mark place = c.try_drop-went.ensures.value ∙ ap (can_drop c.args.rule table wanted mark) c.as_slice.ensures in
    let is : new ≡ (if went then commit_of table mark place else mark) = c.try_drop-went.ensures.mark ∙ ap (λ p. if went then commit_of table mark p else mark) c.as_slice.ensures in
    let paid : c.try_drop-went.new.steps + ats_in new * calls_in mark ≤ c.loop-place.steps + ats_in mark * calls_in mark + calls_in mark =
    trial_paid c.args.rule table wanted mark new place went c.loop-place.steps c.try_drop-went.new.steps can is c.try_drop-went.ensures.counted in
    let same : calls_in mark ≡ calls_in old = follows-calls c.args.rule table wanted sweep.done old mark sweep.follows in (
      subst (IsSweep c.args.rule table wanted old new c.args.places.now (at + 1)) (sym c.either-dropped.ensures)
          (sweep_on c.args.rule table wanted old mark new c.args.places.now at c.loop-place.dropped went place sweep here can is),
      sweep_paid (calls_in old) (ats_in old) (ats_in mark) (ats_in new) at c.args.steps.now c.loop-place.steps c.try_drop-went.new.steps c.loop-place.invariant.1
          (subst (λ n. c.try_drop-went.new.steps + ats_in new * n ≤ c.loop-place.steps + ats_in mark * n + n) same paid),
    )
