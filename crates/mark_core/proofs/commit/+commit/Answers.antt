use Rattle.std.proofs.Common.{◌≡◌, ℕ, ◌+◌, ◌≤◌, List, drop, get_or, Some, None, slice_get, sym, ap, ◌∙◌, arith}
use Rattle.mark_core.specs.Mark.{known_of, parts_of, calls_here}
use Rattle.mark_core.specs.Drop.{commit_of}
use Rattle.mark_core.specs.declared.mark.Mark.{roll-out-Mark}
use Rattle.mark_core.proofs.Counts.{calls-part}
use Rattle.mark_core.proofs.Elements.{drop-next}
use Rattle.mark_core.proofs.Probes.{commit-nowhere}
use Rattle.mark_core.proofs.commit.+commit.Goals as goal

pub returns-in-Some-clause-counted : goal.returns-in-Some-clause-counted
returns-in-Some-clause-counted g t c =
    let index : ℕ = get_or c.args.path.now c.args.at 0 in
    let mark = c.args.mark.now in
    let here : slice_get (parts_of mark) index ≡ Some c.in-Some.part.now = sym c.in-Some.ensures.element in
    let above : c.notice.new.steps ≤ c.commit.new.steps + calls_here (known_of mark).form = c.notice.ensures.counted in
    omega (arith, calls-part mark index c.in-Some.part.now here, c.commit.ensures.counted, above)

pub returns-in-None-clause-value : goal.returns-in-None-clause-value
returns-in-None-clause-value g t c =
    let table = g.K.Kinds.table c.args.kinds.now in
    let index : ℕ = get_or c.args.path.now c.args.at 0 in
    let rest : List ℕ = drop (c.args.at + 1) c.args.path.now in
    let mark = c.args.mark.now in
    let here : slice_get (parts_of mark) index ≡ None = sym c.in-None.ensures.element in
    roll-out-Mark mark ∙ sym (ap (commit_of table mark) (drop-next c.args.path.now c.args.at 0 (omega arith)) ∙ commit-nowhere table mark index rest here)
