use Rattle.kind_table.proofs.Complete.{named-known}
use Rattle.kind_table.proofs.crate_kinds.CrateKinds.name_of.Goals as goal

pub returns-clause-known : goal.returns-clause-known
returns-clause-known c = named-known (λ name. name.now) c.name_at.result c.args.id c.name_at.ensures
