-- What reading to the end does to a source's count of faults.
--
-- CountsReadFaults before now r     a fault raised the count; every other outcome leaves it
use Rattle.std.specs.Prelude.{◌≡◌, ℕ, ◌≤◌, Result, Ok, Err}
use Rattle.device_core.specs.Faults.{Rose}
use Rattle.device_core.specs.declared.read.ReadError.{ReadError}
use Rattle.device_core.specs.declared.read.ReadError.TheVariants.{Memory, Fault, TooLong}

abbrev pub CountsReadFaults : {T : Type 0} → ℕ → ℕ → Result T ReadError → Type 0
CountsReadFaults before now (Ok _) = now ≡ before
CountsReadFaults before now (Err Memory) = now ≡ before
CountsReadFaults before now (Err Fault) = (before ≤ now) × Rose before now
CountsReadFaults before now (Err TooLong) = now ≡ before
