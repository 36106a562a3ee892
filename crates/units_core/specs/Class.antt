-- The unit of a call, by the class of its kind.
--   hard_blank     the blank U+00A0, which doesn't break, in UTF-8
--   plain_blanks   a text with a blank in place of each such one
--   currency_text  the number format of an amount in the locale's currency
--   locale_currency  such an amount, of two digits behind the point, thousands set apart
--   long_date      the format of a date, with four digits of the year
--   long_time      the format of a time, with AM/PM written so
--   date_and_time  the format of a date and its time
--   percentage     a percentage of so many digits behind the point, without a group separator
--   class_unit     the unit of a call, by its class and the unit of its first argument
use Rattle.std.specs.Prelude.{ℕ, ℤ, pos, true, false, if◌then◌else◌, List, [], ◌∷◌, codes, Option, Some, None}
use Rattle.std.specs.Str.{trim}
use Rattle.kind_table.specs.declared.unit_class.UnitClass.{UnitClass}
use Rattle.kind_table.specs.declared.unit_class.UnitClass.TheVariants as class
use Rattle.units_core.specs.Locale.{currency_sign}
use Rattle.units_core.specs.Replace.{holds, replaced}
use Rattle.units_core.specs.declared.locale.Locale.{Locale}
use Rattle.units_core.specs.declared.units.Units.{Units}
use Rattle.units_core.specs.declared.units.Units.TheVariants.{Currency, Percentage, Date}

abbrev pub hard_blank : List ℕ
hard_blank = 194 ∷ 160 ∷ []

abbrev pub plain_blanks : List ℕ → List ℕ
plain_blanks text = replaced hard_blank (codes " ") text

abbrev pub currency_text : Locale → List ℕ
currency_text locale = plain_blanks (replaced currency_sign locale.currency_symbol locale.currency_standard)

abbrev pub locale_currency : Locale → Units
locale_currency locale = Currency true (pos 2) (currency_text locale) locale.currency_symbol

abbrev pub long_date : Locale → List ℕ
long_date locale = if holds (codes "yyyy") locale.date_short then locale.date_short else replaced (codes "yy") (codes "yyyy") locale.date_short

abbrev pub long_time : Locale → List ℕ
long_time locale = trim (replaced (codes "a") (codes "AM/PM") locale.time_short)

abbrev pub date_and_time : Locale → List ℕ
date_and_time locale = plain_blanks (replaced (codes "{1}") (long_date locale) (replaced (codes "{0}") (long_time locale) locale.date_time_short))

abbrev pub percentage : ℤ → List ℕ → Units
percentage precision num_fmt = Percentage false precision num_fmt

abbrev pub class_unit : Locale → UnitClass → Option Units → Option Units
class_unit locale class.NoUnit first = None
class_unit locale class.FirstArgument first = first
class_unit locale class.Currency first = Some (locale_currency locale)
class_unit locale class.Percentage first = Some (percentage (pos 0) (codes "0%"))
class_unit locale class.PercentageTwo first = Some (percentage (pos 2) (codes "0.00%"))
class_unit locale class.Date first = Some (Date (plain_blanks (long_date locale)))
class_unit locale class.DateTime first = Some (Date (date_and_time locale))
