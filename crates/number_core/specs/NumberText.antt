-- The text of a number in millionths, and the number of a text.
--   number_text           `-` if negative, the whole part, and where the fraction isn't 0 a `.` and its digits
--   fraction_digits       the digits of a fraction, at most so many, for as long as something is left: none is a zero at the end
--   read_number           one sign at most, one or more digits, and at most a `.` with one to six digits; a number that fits
--   magnitude             the millionths that a text without a sign says
--   digits_number         the number that one or more digits say
--   unsigned_in_range     a number below 2 ^ 64, or none
--   NumberTextsReadBack   what is written of a number is read as that number
use Rattle.std.specs.Prelude.{◌≡◌, ℕ, zero, suc, ◌+◌, ◌-◌, ◌*◌, ◌/◌, ◌%◌, ◌^◌, ◌==◌, nat_le, nat_lt, ℤ, pos, neg_ℤ, negsuc, Bool, ◌&&◌, if◌then◌else◌, Option, Some, None, option_and_then, not, nat_eq, List, [], ◌∷◌, ◌++◌, length}
use Rattle.std.specs.List.{list_all, position_or_len, before_first, after_first}
use Rattle.std.specs.Char.{is_ascii_digit}
use Rattle.std.specs.Str.Parse.{digits_value}
use Rattle.std.specs.Fmt.{decimal}
use Rattle.number_core.specs.Number.{fits}

abbrev pub fraction_digits : ℕ → ℕ → List ℕ
fraction_digits zero rest = []
fraction_digits (suc places) rest = if rest == 0 then [] else ((48 + rest / 10 ^ places) ∷ fraction_digits places (rest % 10 ^ places))

abbrev pub fraction_text : ℕ → List ℕ
fraction_text fraction = if fraction == 0 then [] else 46 ∷ fraction_digits 6 fraction

abbrev pub magnitude_text : ℕ → List ℕ
magnitude_text n = decimal (n / 1000000) ++ fraction_text (n % 1000000)

abbrev pub number_text : ℤ → List ℕ
number_text (pos n) = magnitude_text n
number_text (negsuc n) = 45 ∷ magnitude_text (n + 1)

abbrev pub is_digits : List ℕ → Bool
is_digits text = not (nat_eq (length text) 0) && list_all is_ascii_digit text

abbrev pub digits_number : List ℕ → Option ℕ
digits_number text = if is_digits text then Some (digits_value 10 text) else None

-- a number with so many zeros behind it
abbrev pub with_zeros : ℕ → Option ℕ → Option ℕ
with_zeros places None = None
with_zeros places (Some n) = Some (n * 10 ^ places)

-- the millionths of so many ones
abbrev pub whole_millionths : List ℕ → Option ℕ
whole_millionths text = with_zeros 6 (digits_number text)

-- the millionths of one to six digits behind a point
abbrev pub fraction_millionths : List ℕ → Option ℕ
fraction_millionths fraction = if nat_le (length fraction) 6 then with_zeros (6 - length fraction) (digits_number fraction) else None

-- the sum, where there are both
abbrev pub sum_of : Option ℕ → Option ℕ → Option ℕ
sum_of (Some m) (Some n) = Some (m + n)
sum_of (Some m) None = None
sum_of None n = None

abbrev pub is_point : ℕ → Bool
is_point c = c == 46

abbrev pub magnitude : List ℕ → Option ℕ
magnitude text = if nat_lt (position_or_len is_point text) (length text) then sum_of (whole_millionths (before_first is_point text)) (fraction_millionths (after_first is_point text)) else whole_millionths text

abbrev pub some_in_range : ℤ → Option ℤ
some_in_range n = if fits n then Some n else None

abbrev pub unsigned_in_range : ℕ → Option ℕ
unsigned_in_range n = if nat_lt n (2 ^ 64) then Some n else None

abbrev pub positive_number : ℕ → Option ℤ
positive_number n = some_in_range (pos n)

abbrev pub negative_number : ℕ → Option ℤ
negative_number n = some_in_range (neg_ℤ (pos n))

abbrev pub read_number : List ℕ → Option ℤ
read_number [] = None
read_number (c ∷ rest) = if c == 45 then option_and_then negative_number (magnitude rest)
    else (if c == 43 then option_and_then positive_number (magnitude rest) else option_and_then positive_number (magnitude (c ∷ rest)))

abbrev pub NumberTextsReadBack : ℤ → Type 0
NumberTextsReadBack n = read_number (number_text n) ≡ Some n
