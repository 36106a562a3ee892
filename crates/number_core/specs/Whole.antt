-- The whole number of a number in millionths.
--   trunc  cut toward zero
--   floor  the greatest one that is not above the number
use Rattle.std.specs.Prelude.{ℤ, pos}
use Rattle.std.specs.Int.{int_div_euclid}
use Rattle.std.specs.Int.RustNames.{int_div}

abbrev pub trunc : ℤ → ℤ
trunc n = int_div n (pos 1000000)

abbrev pub floor : ℤ → ℤ
floor n = int_div_euclid n (pos 1000000)
