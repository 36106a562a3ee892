use Rattle.number_core.proofs.Fits.{unread, is-true}
use Rattle.number_core.proofs.read.digits_number.Goals as goal

pub returns-in-Err : goal.returns-in-Err
returns-in-Err c = unread c.args.text.now c.in-Err.field-0 (is-true _ _ c.if-not-is_digits.false c.is_digits.ensures) c.in-Err.ensures.value.0
