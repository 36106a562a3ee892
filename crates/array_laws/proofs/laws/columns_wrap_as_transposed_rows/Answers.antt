use Rattle.array_laws.proofs.Turned.{wrapped-turned}
use Rattle.array_laws.proofs.laws.columns_wrap_as_transposed_rows.Goals as goal

pub returns : goal.returns
returns c = wrapped-turned
