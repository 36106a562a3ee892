use Rattle.std.proofs.Common.{◌∙◌}
use Rattle.units_core.proofs.Rows.{row-there}
use Rattle.units_core.proofs.product.outcome_of.Goals as goal

pub returns-in-Some : goal.returns-in-Some
returns-in-Some c = c.outcome.ensures ∙ row-there c.args.kind c.args.left.now c.args.right.now c.in-Some.row c.in-Some.ensures
