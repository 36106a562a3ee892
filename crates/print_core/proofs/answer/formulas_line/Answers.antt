-- What the writer prints for the tokens of two formulas is their compact text.
use Rattle.std.proofs.Common.{◌++◌, ◌∷◌, [], ap}
use Rattle.serde_json.proofs.Texts.{print-outline}
use Rattle.print_core.specs.Answer.{formulas_data}
use Rattle.print_core.proofs.answer.formulas_line.Goals as goal

pub returns : goal.returns
returns c =
    rw (c.in_ok-push.ensures.items, c.into_inner-formulas.ensures.items, c.write_formulas.ensures.before, c.new-writer.ensures.before, c.new.ensures.items, c.in_ok-write_formulas.ensures.tokens, c.new-writer.ensures.tokens)
    (ap (λ text. text ++ 10 ∷ []) (print-outline (formulas_data c.args.exported.now c.args.imported.now)))
