use Rattle.std.proofs.Common.{◌∙◌}
use Rattle.units_core.proofs.Texts.{replaced-is}
use Rattle.units_core.proofs.text.replaced.Goals as goal

pub returns : goal.returns
returns c =
    let made = c.in_ok-made.ensures.ok in
    c.in_ok-made-2.ensures ∙ c.as_str.ensures.value ∙ replaced-is made.0 c.args.old c.args.new.now c.args.text.now _ c.requires made.1
