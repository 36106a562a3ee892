-- How a device counts its faults.
--
-- Rose before now             the count rose, or it stands at its last value, 2 ^ 64 - 1
-- CountsFaults before now r   a step with the result r: the count never falls, a failure raises it, an Ok leaves it
use Rattle.std.specs.Prelude.{◌≡◌, ℕ, ◌+◌, ◌-◌, ◌^◌, ◌≤◌, min, Result, OnOk, OnErr}

abbrev pub Rose : ℕ → ℕ → Type 0
Rose before now = min (before + 1) (2 ^ 64 - 1) ≤ now

pub record CountsFaults {T E : Type 0} (before now : ℕ) (r : Result T E) : Type 0 where
  pub never_falls : before ≤ now
  pub failure_raises : OnErr r (Rose before now)
  pub ok_leaves : OnOk r (now ≡ before)
