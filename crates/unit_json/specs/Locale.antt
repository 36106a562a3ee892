-- The locale of a request.
--   locale_in  an object of just the five texts
use Rattle.std.specs.Prelude.{map, codes, Option, Some}
use Rattle.serde_json.specs.Data.{Data}
use Rattle.serde_json.specs.Find.{as_str}
use Rattle.value_json.specs.Fields.{◌>>=◌}
use Rattle.value_json.specs.Objects.{has_only}
use Rattle.units_core.specs.declared.locale.Locale.{Locale}
use Rattle.unit_json.specs.Field.{at_key}
use Rattle.unit_json.specs.declared.locale.TheConstants.{LOCALE_KEYS}

unfoldable pub locale_in : Data → Option Locale
locale_in datum = do
  exactly ← has_only (map (λ key. key.now) LOCALE_KEYS) datum
  currency_symbol ← at_key as_str (codes "currency_symbol") datum
  currency_standard ← at_key as_str (codes "currency_standard") datum
  date_short ← at_key as_str (codes "date_short") datum
  time_short ← at_key as_str (codes "time_short") datum
  date_time_short ← at_key as_str (codes "date_time_short") datum
  Some (record {
    currency_symbol = currency_symbol;
    currency_standard = currency_standard;
    date_short = date_short;
    time_short = time_short;
    date_time_short = date_time_short;
  })
