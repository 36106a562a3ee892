use Rattle.std.proofs.Common.{◌∙◌, ap, ap₂}
use Rattle.kind_values.specs.Choice.{chosen_over}
use Rattle.kind_values.proofs.conditional.chosen_grid.Goals as goal

pub returns : goal.returns
returns c = c.in_ok-grid.ensures.value
    ∙ ap₂ (λ condition first. chosen_over condition first c.new-second.result) c.new-condition.ensures c.new-first.ensures
    ∙ ap (chosen_over _ _) c.new-second.ensures
