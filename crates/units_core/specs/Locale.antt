-- The locale of a request that names none.
--   currency_sign    the sign ¤ in UTF-8, in whose place a currency's symbol stands
--   standard_locale  dollars, and dates with the month first
use Rattle.std.specs.Prelude.{ℕ, List, [], ◌∷◌, codes}
use Rattle.units_core.specs.declared.locale.Locale.{Locale}

abbrev pub currency_sign : List ℕ
currency_sign = 194 ∷ 164 ∷ []

abbrev pub standard_locale : Locale
standard_locale = record {
  currency_symbol = codes "$";
  currency_standard = 194 ∷ 164 ∷ codes "#,##0.00";
  date_short = codes "m/d/yy";
  time_short = codes "h:mm a";
  date_time_short = codes "{1}, {0}";
}
