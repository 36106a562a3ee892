-- What a run over a request in memory does.
--   asked_for   the command that bytes are: a text, whose words stand between its spaces
--   over        what a source tells that had the request and has so much left, and was not asked in vain
--   taking      what a sink tells that was empty and was given the line, and never refused
--   RunsTo      a run with this command and request ends with a status of this code, and has written this line
--   Ran         such a line was handed over with its code
use Rattle.std.specs.Prelude.{◌≡◌, ℕ, List, [], Option, Some, None, if◌then◌else◌}
use Rattle.std.specs.Str.{is_utf8}
use Rattle.answer_core.specs.Command.{command_in_text}
use Rattle.answer_core.specs.Run.{Trace, trace, Ended}
use Rattle.answer_core.specs.Status.{code_of}
use Rattle.answer_core.specs.declared.command.Command.{Command}
use Rattle.answer_core.specs.declared.status.Status.{Status}
use Rattle.hencredenza_c.specs.Handed.{Handed}

abbrev pub asked_for : List ℕ → Option Command
asked_for words = if is_utf8 words then command_in_text words else None

abbrev pub over : (request left : List ℕ) → Trace
over request left = trace (Some request) (Some left) 0 0

abbrev pub taking : List ℕ → Trace
taking line = trace (Some []) (Some line) 0 0

pub record RunsTo (command : Option Command) (request line : List ℕ) (code : ℕ) : Type 0 where
  pub left : List ℕ
  pub status : Status
  pub ended : Ended command (over request left) (taking line) status
  pub code_is : code ≡ code_of status

pub record Ran (command : Option Command) (request old new : List ℕ) (told result : ℕ) : Type 0 where
  pub line : List ℕ
  pub code : ℕ
  pub runs : RunsTo command request line code
  pub handed : Handed code line old new told result
