use Rattle.std.proofs.Common.{sym, ap, ◌∙◌}
use Rattle.std.specs.Option.{option_map}
use Rattle.validity_core.proofs.Even.{even-good, even-bad}
use Rattle.validity_core.proofs.good.are_even.Goals as goal

pub returns-then-row-columns : goal.returns-then-row-columns
returns-then-row-columns c =
    even-bad c.args.columns c.args.rows.now c.loop-index.index c.in-Some.row.now
    (sym (ap (option_map (λ elements. elements.now)) c.in-Some.is) ∙ c.get.ensures) c.if-row-columns.true
    ∙ c.loop-index.invariant

pub loop-index-preserved : goal.loop-index-preserved
loop-index-preserved c =
    even-good c.args.columns c.args.rows.now c.loop-index.index c.in-Some.row.now
    (sym (ap (option_map (λ elements. elements.now)) c.in-Some.is) ∙ c.get.ensures) c.if-row-columns.false
    ∙ c.loop-index.invariant
