use Rattle.import_core.specs.ImportRule.{import_rule}
use Rattle.import_core.proofs.Exists.{imports_since}
use Rattle.import_core.proofs.Settle.{settled}
use Rattle.import_core.proofs.Sizes.{size_since}
use Rattle.import_core.proofs.import.imported.Goals as goal

pub returns-clause-ok : goal.returns-clause-ok
returns-clause-ok g c = imports_since _ _ _ _ c.in_ok-import.ensures.tree

pub returns-clause-own_import : goal.returns-clause-own_import
returns-clause-own_import g c = settled _ _ (g.met.K.Kinds.lawful c.args.kinds.now).monotone _ _ _ c.in_ok-import.ensures.tree

pub returns-clause-size : goal.returns-clause-size
returns-clause-size g c = size_since (import_rule c.args.rule (g.K.Kinds.table c.args.kinds.now)) c.args.add _ _ c.in_ok-import.ensures.tree
