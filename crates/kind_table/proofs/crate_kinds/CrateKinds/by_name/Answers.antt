use Rattle.kind_table.proofs.Sorts.{numbered_by_name}
use Rattle.kind_table.proofs.crate_kinds.CrateKinds.by_name.Goals as goal

pub returns : goal.returns
returns c = λ id. rw c.number_in.ensures (numbered_by_name c.function_named.result c.args.name.now c.function_named.ensures id)
