use Rattle.std.proofs.Common.{sym}
use Rattle.answer_core.proofs.Words.{several}
use Rattle.answer_core.proofs.command.Command.from_words.Goals as goal

pub returns-in_default-2 : goal.returns-in_default-2
returns-in_default-2 c = sym (several c.args.words.now c.in_default.len_at_least)
