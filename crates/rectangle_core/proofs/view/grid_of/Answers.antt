use Rattle.std.proofs.Common.{◌∙◌, ap₂, arith}
use Rattle.rectangle_core.specs.Rectangle.{rectangle}
use Rattle.rectangle_core.proofs.Fills.{cut-full}
use Rattle.rectangle_core.proofs.view.grid_of.Goals as goal

pub returns-clause-value : goal.returns-clause-value
returns-clause-value g c =
    let f = g.V.View.element c.args.view.now in
    c.from_cells.ensures
    ∙ cut-full f c.loop-row.cells.items c.loop-row.row c.rows-rows.result c.columns-columns.result (omega arith) (omega arith) c.loop-row.invariant.made
    ∙ ap₂ (λ rows columns. rectangle rows columns f) c.rows-rows.ensures.count c.columns-columns.ensures.count
