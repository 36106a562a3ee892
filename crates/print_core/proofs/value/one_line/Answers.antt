-- What the writer prints for the tokens of a value is the value's compact text.
use Rattle.std.proofs.Common.{◌++◌, ◌∷◌, [], ap}
use Rattle.serde_json.proofs.Texts.{print-outline}
use Rattle.value_json.specs.Values.{value_data}
use Rattle.print_core.proofs.value.one_line.Goals as goal

pub returns : goal.returns
returns c =
    rw (c.in_ok-push.ensures.items, c.into_inner-line.ensures.items, c.write_value.ensures.before, c.new-writer.ensures.before, c.new.ensures.items, c.in_ok-write_value.ensures.tokens, c.new-writer.ensures.tokens)
    (ap (λ text. text ++ 10 ∷ []) (print-outline (value_data c.args.value.now)))
