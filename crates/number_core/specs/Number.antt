-- Numbers in millionths, and what operators make of them.
--   fits        whether a number is one of 64 bits
--   in_range    a number that fits, or #NUM!
--   product     the exact product, cut toward zero
--   quotient    the exact quotient, cut toward zero; #DIV/0! by zero
--   multiplied  a number, multiplied so often by a base; #NUM! as soon as a product is out of range
--   power       1, multiplied by the base as often as the exponent says, which is whole and from 0 to 1024; none of zero to
--               the power of zero
--   percent     a hundredth, cut toward zero
--   sign        -1, 0 or 1
use Rattle.std.specs.Prelude.{ℕ, zero, suc, ◌%◌, ◌/◌, ◌==◌, nat_le, ℤ, pos, negsuc, ◌*ℤ◌, int_le, Bool, false, ◌&&◌, if◌then◌else◌, Result, Ok, Err}
use Rattle.std.specs.Int.RustNames.{int_div}
use Rattle.value_core.specs.declared.error.Error.{Error}
use Rattle.value_core.specs.declared.error.Error.TheVariants.{NUM, DIV}

abbrev pub fits : ℤ → Bool
fits n = int_le (negsuc 9223372036854775807) n && int_le n (pos 9223372036854775807)

abbrev pub in_range : ℤ → Result ℤ Error
in_range n = if fits n then Ok n else Err NUM

abbrev pub product : ℤ → ℤ → Result ℤ Error
product m n = in_range (int_div (m *ℤ n) (pos 1000000))

abbrev pub is_zero : ℤ → Bool
is_zero (pos n) = n == 0
is_zero (negsuc n) = false

abbrev pub quotient : ℤ → ℤ → Result ℤ Error
quotient m n = if is_zero n then Err DIV else in_range (int_div (m *ℤ pos 1000000) n)

abbrev pub then_do : Result ℤ Error → (ℤ → Result ℤ Error) → Result ℤ Error
then_do (Ok n) f = f n
then_do (Err e) f = Err e

abbrev pub multiplied : ℤ → ℕ → ℤ → Result ℤ Error
multiplied base zero value = Ok value
multiplied base (suc count) value = then_do (product value base) (multiplied base count)

abbrev pub is_exponent : ℕ → Bool
is_exponent n = n % 1000000 == 0 && nat_le n 1024000000

abbrev pub power : ℤ → ℤ → Result ℤ Error
power base (pos n) = if is_exponent n then (if is_zero base && n == 0 then Err NUM else multiplied base (n / 1000000) (pos 1000000)) else Err NUM
power base (negsuc n) = Err NUM

abbrev pub percent : ℤ → ℤ
percent n = int_div n (pos 100)

abbrev pub sign : ℤ → ℤ
sign (pos n) = if n == 0 then pos 0 else pos 1000000
sign (negsuc n) = negsuc 999999
