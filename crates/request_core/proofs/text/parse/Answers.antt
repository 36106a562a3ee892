use Rattle.std.proofs.Common.{sym}
use Rattle.request_core.proofs.Blanks.{data_of-text, data_of-none, data_of-blanks}
use Rattle.request_core.proofs.text.parse.Goals as goal

pub returns-in-Ok : goal.returns-in-Ok
returns-in-Ok c = data_of-text _ _ c.in-Ok.ensures.ok.0 c.in-Ok.ensures.ok.1

pub returns-else-is_memory : goal.returns-else-is_memory
returns-else-is_memory c =
    data_of-none _ (c.in-Err.ensures.err (λ memory. cc (c.if-is_memory.ensures.1 memory)))

pub returns-then-are_blank : goal.returns-then-are_blank
returns-then-are_blank c = data_of-blanks _ (sym c.if-are_blank.ensures)
