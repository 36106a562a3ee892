use Rattle.formula_json.proofs.ByName.{found_by_name}
use Rattle.formula_json.proofs.kind.kind_named.Goals as goal

pub returns : goal.returns
returns c = found_by_name c.args.name.now c.function_named.result c.function_named.ensures
