use Rattle.std.proofs.Common.{◌∙◌}
use Rattle.hencredenza_c.proofs.Ends.{no-text, text-asks}
use Rattle.hencredenza_c.proofs.run.command_in.Goals as goal

pub returns-in-Ok : goal.returns-in-Ok
returns-in-Ok c = c.from_text.ensures ∙ text-asks c.args.words.now c.in-Ok.text.now c.in-Ok.ensures.cases.0 c.in-Ok.ensures.cases.1

pub returns-in-Err : goal.returns-in-Err
returns-in-Err c = no-text c.args.words.now c.in-Err.ensures.cases.0
