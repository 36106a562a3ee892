use Rattle.std.proofs.Common.{◌≡◌, ◌+◌, ◌-◌, ◌*◌, Some, drop, slice_get, sym, take, ap, ◌∙◌, arith}
use Rattle.rectangle_core.proofs.Cuts.{no-row-cut, some-row-cut}
use Rattle.rectangle_core.proofs.grid.Grid.row.Goals as goal

pub returns-then-row-self : goal.returns-then-row-self
returns-then-row-self c =
    no-row-cut c.self.inside.rows c.self.inside.columns c.self.inside.cells.items c.args.row c.if-row-self.true
    ∙ ap (λ rows. slice_get rows c.args.row) c.self.view_is

pub returns : goal.returns
returns c =
    ap (λ count. Some (take count (drop (c.args.row * c.self.inside.columns) c.as_slice.result.now)))
    (let same : c.args.row * c.self.inside.columns + c.self.inside.columns - c.args.row * c.self.inside.columns ≡ c.self.inside.columns = omega arith in same)
    ∙ ap (λ cells. Some (take c.self.inside.columns (drop (c.args.row * c.self.inside.columns) cells))) c.as_slice.ensures.value
    ∙ sym (some-row-cut c.self.inside.rows c.self.inside.columns c.self.inside.cells.items c.args.row c.if-row-self.false)
    ∙ ap (λ rows. slice_get rows c.args.row) c.self.view_is
