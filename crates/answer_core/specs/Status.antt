-- How a run may end.
--   code_of  the exit status
use Rattle.std.specs.Prelude.{ℕ}
use Rattle.answer_core.specs.declared.status.Status.{Status}
use Rattle.answer_core.specs.declared.status.Status.TheVariants.{Done, Usage, BadJson, BadRequest, TooLong, ReadFault, WriteFault, Memory}

abbrev pub code_of : Status → ℕ
code_of Done = 0
code_of Usage = 2
code_of BadJson = 3
code_of (BadRequest place) = 4
code_of TooLong = 5
code_of ReadFault = 6
code_of WriteFault = 7
code_of Memory = 8
