use Rattle.std.proofs.Common.{◌≡◌, ◌+◌, ◌*◌, ◌≤◌, ◌++◌, length, subst}
use Rattle.mark_core.specs.Mark.{ats_in, calls_in}
use Rattle.mark_core.proofs.Sweeps.{follows-both, follows-calls, last_paid, sweep_fewer, sweep_settles, sweeps_paid}
use Rattle.mark_core.proofs.sweep.drop_what_can.Goals as goal

pub sweeps-smaller : goal.sweeps-smaller
sweeps-smaller g c =
    sweep_fewer c.args.rule (g.K.Kinds.table c.args.kinds.now) c.args.wanted c.sweeps.mark c.sweep_once-dropped.new.mark c.args.places.now (length c.args.places.now) c.sweep_once-dropped.result
    c.sweep_once-dropped.ensures.value c.if-not-dropped.false

pub sweeps-preserved : goal.sweeps-preserved
sweeps-preserved g c =
    let table = g.K.Kinds.table c.args.kinds.now in
    let wanted = c.args.wanted in
    let old = c.args.mark.now in
    let mark = c.sweeps.mark in
    let new = c.sweep_once-dropped.new.mark in
    let places = c.args.places.now in
    let after = c.sweep_once-dropped.new.steps in
    let sweep = c.sweep_once-dropped.ensures.value in
    let so_far = c.sweeps.invariant.0 in
    let same : calls_in mark ≡ calls_in old = follows-calls c.args.rule table wanted so_far.0 old mark so_far.1 in (
      (so_far.0 ++ sweep.done, follows-both c.args.rule table wanted so_far.0 sweep.done old mark new so_far.1 sweep.follows),
      sweeps_paid (calls_in old) (length places) (ats_in old) (ats_in mark) (ats_in new) c.args.steps.now c.sweeps.steps after
          (sweep_fewer c.args.rule table wanted mark new places (length places) c.sweep_once-dropped.result sweep c.if-not-dropped.false) c.sweeps.invariant.1
          (subst (λ n. after + ats_in new * n ≤ c.sweeps.steps + (length places + ats_in mark) * n) same c.sweep_once-dropped.ensures.counted),
    )

pub returns-clause-settled : goal.returns-clause-settled
returns-clause-settled g c =
    sweep_settles c.args.rule (g.K.Kinds.table c.args.kinds.now) c.args.wanted c.args.mark.now c.sweeps.mark c.sweep_once-dropped.new.mark c.args.places.now c.sweeps.invariant.0.0
    c.sweep_once-dropped.result c.sweeps.invariant.0.1 c.sweep_once-dropped.ensures.value c.if-not-dropped.true

pub returns-clause-counted : goal.returns-clause-counted
returns-clause-counted g c =
    let old = c.args.mark.now in
    let mark = c.sweeps.mark in
    let new = c.sweep_once-dropped.new.mark in
    let after = c.sweep_once-dropped.new.steps in
    let so_far = c.sweeps.invariant.0 in
    let same : calls_in mark ≡ calls_in old = follows-calls c.args.rule (g.K.Kinds.table c.args.kinds.now) c.args.wanted so_far.0 old mark so_far.1 in
    last_paid (calls_in old) (length c.args.places.now) (ats_in old) (ats_in mark) (ats_in new) c.args.steps.now c.sweeps.steps after c.sweeps.invariant.1
    (subst (λ n. after + ats_in new * n ≤ c.sweeps.steps + (length c.args.places.now + ats_in mark) * n) same c.sweep_once-dropped.ensures.counted)
