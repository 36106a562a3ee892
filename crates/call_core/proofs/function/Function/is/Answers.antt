use Rattle.std.proofs.Common.{sym, ap, ◌∙◌, eqb-true, eq-eqb}
use Rattle.call_core.specs.FunctionCode.{function_code}
use Rattle.call_core.proofs.FunctionCodes.{function_code-one_to_one}
use Rattle.call_core.proofs.function.Function.is.Goals as goal

pub returns : goal.returns
returns c = (λ same. function_code-one_to_one _ _ (sym c.code.ensures ∙ eqb-true _ _ same ∙ c.code-2.ensures), λ one. eq-eqb _ _ (c.code.ensures ∙ ap function_code one ∙ sym c.code-2.ensures))
