use Rattle.reader_laws.proofs.Addresses.{address-back}
use Rattle.reader_laws.proofs.laws.addresses_read_back.Goals as goal

pub returns : goal.returns
returns c = λ a1 sheets cell row column. address-back a1 sheets cell row column
