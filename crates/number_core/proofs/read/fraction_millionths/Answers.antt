use Rattle.std.proofs.Common.{◌∙◌, ap₂, option_and_then}
use Rattle.number_core.specs.NumberText.{unsigned_in_range, with_zeros}
use Rattle.number_core.proofs.Fits.{fraction_millionths-fits}
use Rattle.number_core.proofs.read.fraction_millionths.Goals as goal

pub returns-else-fraction-gt6 : goal.returns-else-fraction-gt6
returns-else-fraction-gt6 c =
    c.with_zeros.ensures ∙ ap₂ (λ k o. option_and_then unsigned_in_range (with_zeros k o)) c.places_left.ensures c.digits_number.ensures ∙ fraction_millionths-fits c.args.fraction.now c.if-fraction-gt6.false
