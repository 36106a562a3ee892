use Rattle.reader_laws.proofs.QuotedNames.{name-back}
use Rattle.reader_laws.proofs.laws.quoted_names_read_back.Goals as goal

pub returns : goal.returns
returns c = λ name utf8. name-back name utf8
