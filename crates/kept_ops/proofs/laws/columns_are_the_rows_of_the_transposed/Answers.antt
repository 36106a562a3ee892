use Rattle.kept_ops.specs.Mode.{mode_of}
use Rattle.kept_ops.proofs.Turned.{flattened-turned}
use Rattle.kept_ops.proofs.laws.columns_are_the_rows_of_the_transposed.Goals as goal

pub returns : goal.returns
returns c = λ cell ignore as_column rows is. flattened-turned cell (mode_of ignore) as_column rows is
