-- How a request is to be answered, by the object that it is.
--   version_of, version_in   the version that a number is: 1 or 2
--   rule_name, rule_named, rule_in   the name of a rule of import, the rule of a name, and the rule that a text names
--   limit_in                 a limit of cells: a whole number from 1 to 16777216
--   version_or, rule_or, limit_or    what stands at the key, where it is there; else version 1, the rule of the crate, 1000000 cells
--   standard_options         the rule and the limit where nothing is said
--   plain_options            those of version 1: nothing may be said
--   wide_options             those of version 2
--   options_in               those of a request
use Rattle.std.specs.Prelude.{ℕ, ◌==◌, ◌&&◌, nat_le, if◌then◌else◌, List, codes, is_none, Option, Some, None}
use Rattle.std.specs.List.{find}
use Rattle.std.specs.Str.{bytes_eq}
use Rattle.serde_json.specs.Data.{Data}
use Rattle.serde_json.specs.Find.{as_number, as_str, as_u64, get}
use Rattle.value_json.specs.Fields.{◌>>=◌}
use Rattle.import_core.specs.declared.rule.ImportRule.{ImportRule}
use Rattle.import_core.specs.declared.rule.ImportRule.TheVariants.{AsCrate, EveryScalar}
use Rattle.option_json.specs.declared.options.Options.{Options}
use Rattle.option_json.specs.declared.rule.TheConstants.{RULES}
use Rattle.option_json.specs.declared.version.Version.{Version}
use Rattle.option_json.specs.declared.version.Version.TheVariants.{One, Two}

abbrev pub version_of : ℕ → Option Version
version_of number = if number == 1 then Some One else (if number == 2 then Some Two else None)

abbrev pub version_in : Data → Option Version
version_in datum = as_number datum >>= as_u64 >>= version_of

abbrev pub rule_name : ImportRule → List ℕ
rule_name AsCrate = codes "as-crate"
rule_name EveryScalar = codes "every-scalar"

abbrev pub rule_named : List ℕ → Option ImportRule
rule_named name = find (λ rule. bytes_eq (rule_name rule) name) RULES

abbrev pub rule_in : Data → Option ImportRule
rule_in datum = as_str datum >>= rule_named

abbrev pub limit_of : ℕ → Option ℕ
limit_of number = if nat_le 1 number && nat_le number 16777216 then Some number else None

abbrev pub limit_in : Data → Option ℕ
limit_in datum = as_number datum >>= as_u64 >>= limit_of

abbrev pub version_or : Option Data → Option Version
version_or None = Some One
version_or (Some datum) = version_in datum

abbrev pub rule_or : Option Data → Option ImportRule
rule_or None = Some AsCrate
rule_or (Some datum) = rule_in datum

abbrev pub limit_or : Option Data → Option ℕ
limit_or None = Some 1000000
limit_or (Some datum) = limit_in datum

abbrev pub standard_options : Options
standard_options = record { rule = AsCrate; limit = 1000000 }

abbrev pub plain_options : Data → Option Options
plain_options request = if is_none (get (codes "rule") request) && is_none (get (codes "limit") request) then Some standard_options else None

unfoldable pub wide_options : Data → Option Options
wide_options request = do
  rule ← rule_or (get (codes "rule") request)
  limit ← limit_or (get (codes "limit") request)
  Some (record { rule = rule; limit = limit })

abbrev pub of_version : Data → Version → Option Options
of_version request One = plain_options request
of_version request Two = wide_options request

abbrev pub options_in : Data → Option Options
options_in request = version_or (get (codes "version") request) >>= of_version request
