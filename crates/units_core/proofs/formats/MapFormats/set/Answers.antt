use Rattle.std.proofs.Common.{arith}
use Rattle.std.proofs.lemmas.Map.Text.{text_keys}
use Rattle.units_core.proofs.formats.MapFormats.set.Goals as goal

pub returns-clause-done : goal.returns-clause-done
returns-clause-done c = λ other. grind (arith, text_keys)
