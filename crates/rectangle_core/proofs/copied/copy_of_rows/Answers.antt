use Rattle.std.proofs.Common.{◌∙◌}
use Rattle.rectangle_core.proofs.Rectangles.{whole}
use Rattle.rectangle_core.proofs.copied.copy_of_rows.Goals as goal

pub returns : goal.returns
returns c = c.in_ok-copy.ensures.value ∙ whole c.args.rows.now c.requires
