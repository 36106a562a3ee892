use Rattle.import_core.proofs.Settle.{again}
use Rattle.import_core.proofs.laws.import_settles.Goals as goal

pub returns : goal.returns
returns c = λ which table lawful add given. again which table lawful.monotone add add (λ e. e) given
