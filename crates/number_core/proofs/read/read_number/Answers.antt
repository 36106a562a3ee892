use Rattle.std.proofs.Common.{Some, None, option_and_then, sym, ap, ◌∙◌, lit<}
use Rattle.std.proofs.lemmas.Str.Pattern.{strip_prefix_char}
use Rattle.number_core.specs.NumberText.{negative_number, positive_number, magnitude, read_number}
use Rattle.number_core.proofs.Fits.{negative_number-fits, positive_number-fits, unsigned}
use Rattle.number_core.proofs.read.read_number.Goals as goal

pub returns-in-Some : goal.returns-in-Some
returns-in-Some c =
    c.negative_number.ensures ∙ ap (option_and_then negative_number) c.magnitude.ensures ∙ negative_number-fits (magnitude c.in-Some.rest.now)
    ∙ sym (ap read_number (strip_prefix_char 45 c.args.text.now (Some c.in-Some.rest) c.in-Some.ensures.cases (lit< tt)))

pub returns : goal.returns
returns c =
    c.positive_number-2.ensures ∙ ap (option_and_then positive_number) c.magnitude-2.ensures ∙ positive_number-fits (magnitude c.args.text.now)
    ∙ unsigned c.args.text.now (strip_prefix_char 45 c.args.text.now None c.in_default.ensures.cases (lit< tt)) (strip_prefix_char 43 c.args.text.now None c.in_default-strip_prefix.ensures.cases (lit< tt))
