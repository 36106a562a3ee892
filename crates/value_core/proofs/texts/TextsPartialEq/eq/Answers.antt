use Rattle.std.specs.Coded.{coded_list, coded_ℕ}
use Rattle.own_items.specs.Sameness.{same_from_iff}
use Rattle.value_core.proofs.texts.TextsPartialEq.eq.Goals as goal

pub returns-clause-same_code : goal.returns-clause-same_code
returns-clause-same_code c = same_from_iff (coded_list (coded_list coded_ℕ)) c.is.result c.args.self.now c.args.other.now c.is.ensures
