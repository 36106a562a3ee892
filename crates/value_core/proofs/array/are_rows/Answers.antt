use Rattle.std.proofs.Common.{sym, ◌∙◌, arith}
use Rattle.value_core.proofs.Lists.{alike_at_index}
use Rattle.value_core.proofs.array.are_rows.Goals as goal

pub returns-then-not-are_elements : goal.returns-then-not-are_elements
returns-then-not-are_elements c = (
  λ h. cc,
  λ e. sym c.if-not-are_elements.true ∙ c.are_elements.ensures.1
      (c.as_slice.ensures.value ∙ alike_at_index (λ elements. elements.items) c.args.rows.now c.args.others.now c.loop-index.index
      c.index-rows-index.result c.index-others-index.result (omega arith) (omega arith) c.index-rows-index.is c.index-others-index.is e
      ∙ sym c.as_slice-in-loop-index.ensures.value),
)
