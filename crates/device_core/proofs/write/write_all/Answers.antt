use Rattle.std.proofs.Common.{◌∙◌, ap, length, arith}
use Rattle.device_core.proofs.Flows.{OnErr-always, Adds-take, AddsFront-cut}
use Rattle.device_core.proofs.write.write_all.Goals as goal

pub returns-in_err-at-clause-cut : goal.returns-in_err-at-clause-cut
returns-in_err-at-clause-cut g c =
    OnErr-always c.from_residual.result (AddsFront-cut _ _ _ c.args.text.now c.loop-at.at c.loop-at.invariant.added c.in_err-at.ensures.kept)

pub loop-at-preserved : goal.loop-at-preserved
loop-at-preserved g c = record {
  within = omega (arith, c.in_ok-at.ensures.bound);
  added = Adds-take _ _ _ c.args.text.now c.loop-at.at c.in_ok-at.field-0 c.loop-at.invariant.added c.in_ok-at.ensures.added;
  untouched = λ e. absurd (omega (arith, ap length e));
  no_fault = c.in_ok-at.ensures.counted.ok_leaves ∙ c.loop-at.invariant.no_fault;
}
