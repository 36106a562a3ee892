use Rattle.std.proofs.Common.{◌∙◌}
use Rattle.nest_core.proofs.Wholes.{sized-nest}
use Rattle.nest_core.proofs.plain_nest.PlainNest.size.Goals as goal

pub returns : goal.returns
returns c = λ book. c.size.ensures ∙ sized-nest c.args.self.now.held book c.args.self.now.sound
