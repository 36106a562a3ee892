-- What a number format says, and the unit that it gives.
--   num_fmt_of, precision_of   the parts of a unit; a date's precision is 0
--   euro_sign     the sign € in UTF-8
--   currency_in   the sign of a currency that a format holds: $, or else €
--   plain_unit    the unit of a format without percent signs: an amount of money where it holds such a sign, else a number
--   number_unit   the unit of a format of numbers: a percentage where it has percent signs
--   unit_of_part  the unit of a format, by its first part
--   format_unit   the unit of a format, by what a book of formats says of it
use Rattle.std.specs.Prelude.{ℕ, ℤ, pos, nat_lt, Bool, if◌then◌else◌, List, [], ◌∷◌, codes, Option, Some}
use Rattle.std.specs.Prelude as prelude
use Rattle.units_core.specs.Replace.{holds}
use Rattle.units_core.specs.declared.formats.FirstPart.{FirstPart}
use Rattle.units_core.specs.declared.formats.FirstPart.TheVariants as part
use Rattle.units_core.specs.declared.units.Units.{Units}
use Rattle.units_core.specs.declared.units.Units.TheVariants.{Number, Currency, Percentage, Date}

abbrev pub num_fmt_of : Units → List ℕ
num_fmt_of (Number separator precision num_fmt) = num_fmt
num_fmt_of (Currency separator precision num_fmt currency) = num_fmt
num_fmt_of (Percentage separator precision num_fmt) = num_fmt
num_fmt_of (Date num_fmt) = num_fmt

abbrev pub precision_of : Units → ℤ
precision_of (Number separator precision num_fmt) = precision
precision_of (Currency separator precision num_fmt currency) = precision
precision_of (Percentage separator precision num_fmt) = precision
precision_of (Date num_fmt) = pos 0

abbrev pub euro_sign : List ℕ
euro_sign = 226 ∷ 130 ∷ 172 ∷ []

abbrev pub currency_in : List ℕ → Option (List ℕ)
currency_in num_fmt =
    if holds (codes "$") num_fmt then Some (codes "$")
    else (if holds euro_sign num_fmt then Some euro_sign else prelude.None)

abbrev pub plain_unit : Option (List ℕ) → Bool → ℤ → List ℕ → Units
plain_unit (Some sign) separator precision num_fmt = Currency separator precision num_fmt sign
plain_unit prelude.None separator precision num_fmt = Number separator precision num_fmt

abbrev pub number_unit : ℕ → Bool → ℤ → List ℕ → Units
number_unit percent separator precision num_fmt =
    if nat_lt 0 percent then Percentage separator precision num_fmt
    else plain_unit (currency_in num_fmt) separator precision num_fmt

abbrev pub unit_of_part : FirstPart → List ℕ → Option Units
unit_of_part (part.Number percent separator precision) num_fmt = Some (number_unit percent separator precision num_fmt)
unit_of_part part.Date num_fmt = Some (Date num_fmt)
unit_of_part part.General num_fmt = prelude.None
unit_of_part part.Error num_fmt = prelude.None
unit_of_part part.None num_fmt = prelude.None

abbrev pub format_unit : (List ℕ → FirstPart) → List ℕ → Option Units
format_unit first_part num_fmt = unit_of_part (first_part num_fmt) num_fmt
