-- The calls of a device in memory, some of which fail.
--
-- Calls             the numbers of the calls that fail, the calls so far, and the faults so far
-- at_start failing  no call yet
-- next_call c       the number of the next call: the first is 1, and the numbers stop at 2 ^ 64 - 1
-- NextFails c       the next call is one that fails
-- after_ok c        the calls, after one more that went well
-- after_fault c     the calls, after one more that failed; the faults stop at 2 ^ 64 - 1
use Rattle.std.specs.Prelude.{ℕ, ◌+◌, ◌-◌, ◌^◌, min, List, Contains}

pub record Calls : Type 0 where
  pub failing : List ℕ
  pub made : ℕ
  pub faults : ℕ

abbrev pub at_start : List ℕ → Calls
at_start failing = record { failing = failing; made = 0; faults = 0 }

abbrev pub next_call : Calls → ℕ
next_call c = min (c.made + 1) (2 ^ 64 - 1)

abbrev pub NextFails : Calls → Type 0
NextFails c = Contains c.failing (next_call c)

abbrev pub after_ok : Calls → Calls
after_ok c = record c { made = next_call c }

abbrev pub after_fault : Calls → Calls
after_fault c = record c { made = next_call c; faults = min (c.faults + 1) (2 ^ 64 - 1) }
