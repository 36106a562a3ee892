use Rattle.std.proofs.Common.{◌∙◌, ◌+◌, ◌*◌, sym, ap, slice_get}
use Rattle.rectangle_core.specs.Rectangle.{element_at}
use Rattle.rectangle_core.proofs.Cuts.{element_at-cut}
use Rattle.rectangle_core.proofs.grid.Grid.get.Goals as goal

pub returns : goal.returns
returns c =
    c.nth.ensures ∙ ap (λ cells. slice_get cells (c.args.row * c.self.inside.columns + c.args.column)) c.as_slice.ensures.value
    ∙ sym (element_at-cut c.self.inside.rows c.self.inside.columns c.self.inside.cells.items c.args.row c.args.column c.if-row-self.false c.if-column-self.false)
    ∙ ap (λ rows. element_at rows c.args.row c.args.column) c.self.view_is
