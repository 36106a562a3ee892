use Rattle.std.proofs.Common.{sym, ◌∙◌, ap₂, arith, w64, to_z, of_z}
use Rattle.std.proofs.lemmas.Int.{to_z-of_z}
use Rattle.number_core.specs.Number.{multiplied}
use Rattle.number_core.proofs.Powers.{multiplied-failed}
use Rattle.number_core.proofs.arithmetic.multiply_often.Goals as goal

pub returns-in-Err : goal.returns-in-Err
returns-in-Err c =
    multiplied-failed (to_z w64 (of_z w64 c.args.base)) (to_z w64 c.loop-step.value-bits) c.in-Err.error c.args.count c.loop-step.step _ c.loop-step.invariant (omega arith) (sym c.in-Err.ensures)
    ∙ ap₂ (λ base start. multiplied base c.args.count start) (to_z-of_z w64 c.args.base c.ranges.base) (to_z-of_z w64 c.args.first c.ranges.first)
