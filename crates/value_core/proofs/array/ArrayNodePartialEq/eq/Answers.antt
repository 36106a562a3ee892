use Rattle.value_core.specs.contracts.array.ArrayNode.{the_row}
use Rattle.own_items.specs.Sameness.{same_from_iff}
use Rattle.value_core.proofs.array.ArrayNodePartialEq.eq.Goals as goal

pub returns-clause-same_code : goal.returns-clause-same_code
returns-clause-same_code c = same_from_iff the_row.coded c.is.result c.args.self.now c.args.other.now c.is.ensures
