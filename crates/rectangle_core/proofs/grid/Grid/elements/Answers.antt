use Rattle.std.proofs.Common.{◌∙◌, sym, ap}
use Rattle.std.specs.List.{flat_map}
use Rattle.rectangle_core.proofs.Cuts.{joined-cut}
use Rattle.rectangle_core.proofs.grid.Grid.elements.Goals as goal

pub returns : goal.returns
returns c =
    c.as_slice.ensures.value
    ∙ sym (joined-cut c.self.inside.rows c.self.inside.columns c.self.inside.cells.items c.self.invariant.2)
    ∙ ap (flat_map (λ row. row)) c.self.view_is
