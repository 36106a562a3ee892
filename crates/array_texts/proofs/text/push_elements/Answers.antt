use Rattle.std.proofs.Common.{◌++◌, ◌∙◌, ap, string_bytes, arith}
use Rattle.array_texts.specs.ArrayText.{element_text}
use Rattle.array_texts.proofs.Joining.{added-step}
use Rattle.array_texts.proofs.text.push_elements.Goals as goal

pub loop-index-preserved : goal.loop-index-preserved
loop-index-preserved c =
    let text = element_text c.args.strict in
    added-step c.args.between.now text c.args.elements.now c.loop-index.index c.index-elements-index.result (string_bytes c.args.made.now) _ (string_bytes c.push_between.new.made) _
    (omega arith) c.loop-index.invariant c.in_ok-push_between.ensures
    (c.in_ok-push_element.ensures ∙ ap (λ element. string_bytes c.push_between.new.made ++ text element) c.index-elements-index.is)
