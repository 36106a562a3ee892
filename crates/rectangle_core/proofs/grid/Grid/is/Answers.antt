use Rattle.std.proofs.Common.{◌∙◌, sym}
use Rattle.rectangle_core.proofs.Cuts.{cut-same, same-cut}
use Rattle.rectangle_core.proofs.grid.Grid.is.Goals as goal

pub returns-then-self-other : goal.returns-then-self-other
returns-then-self-other c = (
  λ h. cc,
  λ e. absurd (c.if-self-other.true (same-cut _ _ _ _ _ _ c.self.invariant.0 c.self.invariant.2 c.other.invariant.0 c.other.invariant.2 (c.self.view_is ∙ e ∙ sym c.other.view_is)).0),
)

pub returns-then-self-other-2 : goal.returns-then-self-other-2
returns-then-self-other-2 c = (
  λ h. cc,
  λ e. absurd (c.if-self-other-2.true (same-cut _ _ _ _ _ _ c.self.invariant.0 c.self.invariant.2 c.other.invariant.0 c.other.invariant.2 (c.self.view_is ∙ e ∙ sym c.other.view_is)).1),
)

pub returns : goal.returns
returns c = (
  λ h. sym c.self.view_is
      ∙ cut-same _ _ _ _ _ _ c.if-self-other.false c.if-self-other-2.false (sym c.as_slice.ensures.value ∙ c.are_elements.ensures.0 h ∙ c.as_slice-2.ensures.value)
      ∙ c.other.view_is,
  λ e. c.are_elements.ensures.1 (c.as_slice.ensures.value
      ∙ (same-cut _ _ _ _ _ _ c.self.invariant.0 c.self.invariant.2 c.other.invariant.0 c.other.invariant.2 (c.self.view_is ∙ e ∙ sym c.other.view_is)).2
      ∙ sym c.as_slice-2.ensures.value),
)
