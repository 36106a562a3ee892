-- The request that a number makes.
--   generated   1000 rows of one sheet, and in E1 a sum of 41 terms over them; nothing is said of how values are shown and of how it is
--               answered
use Rattle.std.specs.Prelude.{ℕ, pos}
use Rattle.units_core.specs.Locale.{standard_locale}
use Rattle.option_json.specs.Options.{standard_options}
use Rattle.request_core.specs.Request.{Asked, asking}
use Rattle.request_core.specs.Showing.{nothing_known}
use Rattle.generator_core.specs.Formula.{total}
use Rattle.generator_core.specs.Sheet.{sheet_with}

abbrev pub generated : ℕ → Asked
generated seed =
    asking (sheet_with seed 1000, record { sheet = 0; row = pos 1; column = pos 5 }, total 40) (nothing_known, standard_locale) standard_options
