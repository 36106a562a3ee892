use Rattle.kind_values.proofs.Sizes.{kind-values-fit}
use Rattle.kind_values.proofs.laws.kind_values_fit.Goals as goal

pub returns : goal.returns
returns c = kind-values-fit c.args.rule
