-- What a call for a formula alone does.
--   rule_for   the rule that a caller asks for
--   ComesTo    the line of the formula, and the code 0; or the line of a refusal that has its reason, and its code
--   Formed     such a line was handed over with its code
use Rattle.std.specs.Prelude.{◌≡◌, ℕ, ◌⊎◌, Bool, if◌then◌else◌, List}
use Rattle.import_core.specs.declared.rule.ImportRule.{ImportRule}
use Rattle.import_core.specs.declared.rule.ImportRule.TheVariants.{AsCrate, EveryScalar}
use Rattle.answer_core.specs.Formula.{IsFormulaLine, RefusesFormula}
use Rattle.answer_core.specs.Refusal.{line_of, status_of}
use Rattle.answer_core.specs.Status.{code_of}
use Rattle.answer_core.specs.declared.refusal.Refusal.{Refusal}
use Rattle.hencredenza_c.specs.Handed.{Handed}

abbrev pub rule_for : Bool → ImportRule
rule_for every_scalar = if every_scalar then EveryScalar else AsCrate

abbrev pub ComesTo : ImportRule → (formula line : List ℕ) → (code : ℕ) → Type 0
ComesTo rule formula line code = (IsFormulaLine rule formula line × (code ≡ 0))
    ⊎ ((refusal : Refusal) × RefusesFormula formula refusal × (line ≡ line_of refusal) × (code ≡ code_of (status_of refusal)))

pub record Formed (rule : ImportRule) (formula old new : List ℕ) (told result : ℕ) : Type 0 where
  pub line : List ℕ
  pub code : ℕ
  pub comes_to : ComesTo rule formula line code
  pub handed : Handed code line old new told result
