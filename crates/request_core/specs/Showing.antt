-- How a request says that values are shown.
--
-- `nothing_known`  formats of which nothing is known
-- `formats_or`     the number formats that stand at their key; without it nothing is known of any
-- `locale_or`      the locale that stands at its key; without it the standard one
-- `showing_in`     both
-- `showing_of`     both, as they were read
use Rattle.std.specs.Prelude.{ℕ, List, codes, Option, Some, None}
use Rattle.serde_json.specs.Data.{Data}
use Rattle.serde_json.specs.Find.{get}
use Rattle.units_core.specs.Formats.{parts_of}
use Rattle.units_core.specs.Locale.{standard_locale}
use Rattle.units_core.specs.declared.formats.FirstPart.{FirstPart}
use Rattle.units_core.specs.declared.formats.FirstPart.TheVariants as part
use Rattle.units_core.specs.declared.locale.Locale.{Locale}
use Rattle.unit_json.specs.Format.{formats_in}
use Rattle.unit_json.specs.Locale.{locale_in}
use Rattle.value_json.specs.Fields.{◌>>=◌}
use Rattle.request_core.specs.declared.showing.Showing.{Showing}

abbrev pub nothing_known : List ℕ → FirstPart
nothing_known num_fmt = part.None

abbrev pub formats_or : Option Data → Option (List ℕ → FirstPart)
formats_or None = Some nothing_known
formats_or (Some datum) = formats_in datum

abbrev pub locale_or : Option Data → Option Locale
locale_or None = Some standard_locale
locale_or (Some datum) = locale_in datum

unfoldable pub showing_in : Data → Option ((List ℕ → FirstPart) × Locale)
showing_in request = do
  first_part ← formats_or (get (codes "formats") request)
  locale ← locale_or (get (codes "locale") request)
  Some (first_part, locale)

abbrev pub showing_of : Showing → (List ℕ → FirstPart) × Locale
showing_of showing = (parts_of showing.formats, showing.locale)
