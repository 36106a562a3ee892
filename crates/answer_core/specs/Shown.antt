-- By what the display unit of a formula is found.
--   Shown, shown_by   what is known of number formats, and the locale
--   unit_setting      these two, and what the formula stands in
use Rattle.std.specs.Prelude.{ℕ, List}
use Rattle.eval_core.specs.Setting.{Setting}
use Rattle.units_core.specs.Unit as units
use Rattle.units_core.specs.declared.formats.FirstPart.{FirstPart}
use Rattle.units_core.specs.declared.locale.Locale.{Locale}

pub record Shown : Type 0 where
  pub first_part : List ℕ → FirstPart
  pub locale : Locale

abbrev pub shown_by : (List ℕ → FirstPart) → Locale → Shown
shown_by first_part locale = record { first_part = first_part; locale = locale }

abbrev pub unit_setting : Setting → Shown → units.Setting
unit_setting here shown = units.setting here.table here.book.num_fmt shown.first_part shown.locale here.cell
