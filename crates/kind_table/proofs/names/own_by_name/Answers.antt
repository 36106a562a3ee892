use Rattle.kind_table.proofs.Sorts.{own_by_name}
use Rattle.kind_table.proofs.names.own_by_name.Goals as goal

pub returns : goal.returns
returns c = λ kind. rw c.own_in.ensures (own_by_name c.function_named.result c.args.name.now c.function_named.ensures kind)
