use Rattle.own_items.specs.Sameness.{same_from_iff}
use Rattle.key_core.specs.contracts.key.CellKey.{the_row}
use Rattle.key_core.proofs.key.CellKeyPartialEq.eq.Goals as goal

pub returns-clause-same_code : goal.returns-clause-same_code
returns-clause-same_code c = same_from_iff the_row.coded c.is.result c.args.self.now c.args.other.now c.is.ensures
