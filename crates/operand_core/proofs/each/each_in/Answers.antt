use Rattle.std.proofs.Common.{◌∙◌}
use Rattle.operand_core.proofs.Mapped.{rectangle-map}
use Rattle.operand_core.proofs.each.each_in.Goals as goal

pub returns : goal.returns
returns g c = c.in_ok-made.ensures.value ∙ rectangle-map (g.R.ElementRule.made_of c.args.rule.now) c.args.grid.now c.rows-rectangle.ensures.rectangle
