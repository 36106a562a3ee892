-- The four modes, each of which leaves out some of two kinds of things.
--   mode_of  of a number: 0 leaves out neither, 1 the first, 2 the second, 3 both; there is no other
use Rattle.std.specs.Prelude.{ℤ, pos, true, false, if◌then◌else◌, Option, Some, None}
use Rattle.std.specs.Ordering.{int_eq}
use Rattle.kept_ops.specs.declared.modes.Mode.{Mode}

abbrev pub mode_of : ℤ → Option Mode
mode_of number =
    if int_eq number (pos 0) then Some (record { first = false; second = false })
    else (if int_eq number (pos 1) then Some (record { first = true; second = false })
    else (if int_eq number (pos 2) then Some (record { first = false; second = true })
    else (if int_eq number (pos 3) then Some (record { first = true; second = true })
    else None)))
