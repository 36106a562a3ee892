use Rattle.std.proofs.Common.{◌≡◌, ℕ, ◌+◌, ◌≤◌, List, drop, length, get_or, Some, slice_get, sym, ap, ◌∙◌, arith, refl}
use Rattle.mark_core.specs.Mark.{known_of, parts_of, calls_here}
use Rattle.mark_core.specs.Probe.{probe_above, probe_of}
use Rattle.mark_core.specs.declared.mark.Mark.{out-roll-Mark, roll-out-Mark}
use Rattle.mark_core.proofs.Counts.{calls-part}
use Rattle.mark_core.proofs.Elements.{drop-next}
use Rattle.mark_core.proofs.Probes.{part-kept, probe-part, probe-refused}
use Rattle.mark_core.proofs.probe.+probed.Goals as goal

pub returns-in-None-probed-clause-value : goal.returns-in-None-probed-clause-value
returns-in-None-probed-clause-value g t c =
    let table = g.K.Kinds.table c.args.kinds.now in
    let index : ℕ = get_or c.args.path.now c.args.at 0 in
    let rest : List ℕ = drop (c.args.at + 1) c.args.path.now in
    let here : slice_get (parts_of c.args.mark.now) index ≡ Some c.in-Some.part.now = cc (c.in-Some.ensures.element, roll-out-Mark c.args.mark.now) in
    sym (ap (probe_of c.args.rule table c.args.mark.now) (drop-next c.args.path.now c.args.at 0 (omega arith))
    ∙ probe-refused c.args.rule table c.args.mark.now c.in-Some.part.now index rest here (sym c.probed.ensures.value ∙ c.in-None-probed.is))

pub returns-in-None-probed-clause-kept : goal.returns-in-None-probed-clause-kept
returns-in-None-probed-clause-kept g t c =
    let index : ℕ = get_or c.args.path.now c.args.at 0 in
    let here : slice_get (parts_of c.args.mark.now) index ≡ Some c.in-Some.part.now = cc (c.in-Some.ensures.element, roll-out-Mark c.args.mark.now) in
    simp out-roll-Mark (part-kept c.args.mark.now c.in-Some.part.now c.probed.new.mark (known_of c.args.mark.now) index here c.probed.ensures.kept refl)

pub returns-in-None-probed-clause-counted : goal.returns-in-None-probed-clause-counted
returns-in-None-probed-clause-counted g t c =
    let index : ℕ = get_or c.args.path.now c.args.at 0 in
    let here : slice_get (parts_of c.args.mark.now) index ≡ Some c.in-Some.part.now = cc (c.in-Some.ensures.element, roll-out-Mark c.args.mark.now) in
    omega (arith, calls-part c.args.mark.now index c.in-Some.part.now here, c.probed.ensures.counted)

pub returns-in-Some-probed-clause-value : goal.returns-in-Some-probed-clause-value
returns-in-Some-probed-clause-value g t c =
    let table = g.K.Kinds.table c.args.kinds.now in
    let index : ℕ = get_or c.args.path.now c.args.at 0 in
    let rest : List ℕ = drop (c.args.at + 1) c.args.path.now in
    let mark = c.args.mark.now in
    let part = c.in-Some.part.now in
    let here : slice_get (parts_of mark) index ≡ Some part = cc (c.in-Some.ensures.element, roll-out-Mark c.args.mark.now) in
    let above : c.probe_above.result ≡ probe_above c.args.rule table (known_of mark) (length (parts_of mark)) index (known_of part) c.in-Some-probed.below = cc (c.probe_above.ensures.value, c.probed.ensures.kept, c.len-count.ensures, roll-out-Mark mark) in
    above ∙ sym (ap (probe_of c.args.rule table mark) (drop-next c.args.path.now c.args.at 0 (omega arith))
    ∙ probe-part c.args.rule table mark part index rest c.in-Some-probed.below here (sym c.probed.ensures.value ∙ c.in-Some-probed.is))

pub returns-in-Some-probed-clause-kept : goal.returns-in-Some-probed-clause-kept
returns-in-Some-probed-clause-kept g t c =
    let index : ℕ = get_or c.args.path.now c.args.at 0 in
    let here : slice_get (parts_of c.args.mark.now) index ≡ Some c.in-Some.part.now = cc (c.in-Some.ensures.element, roll-out-Mark c.args.mark.now) in
    let same : c.probe_above.new.known ≡ known_of c.args.mark.now = cc (c.probe_above.ensures.kept, roll-out-Mark c.args.mark.now) in
    simp out-roll-Mark (part-kept c.args.mark.now c.in-Some.part.now c.probed.new.mark c.probe_above.new.known index here c.probed.ensures.kept same)

pub returns-in-Some-probed-clause-counted : goal.returns-in-Some-probed-clause-counted
returns-in-Some-probed-clause-counted g t c =
    let index : ℕ = get_or c.args.path.now c.args.at 0 in
    let mark = c.args.mark.now in
    let here : slice_get (parts_of mark) index ≡ Some c.in-Some.part.now = cc (c.in-Some.ensures.element, roll-out-Mark c.args.mark.now) in
    let above : c.probe_above.new.steps ≤ c.probed.new.steps + calls_here (known_of mark).form = simp out-roll-Mark at c.probe_above.ensures.counted in
    omega (arith, calls-part mark index c.in-Some.part.now here, c.probed.ensures.counted, above)
