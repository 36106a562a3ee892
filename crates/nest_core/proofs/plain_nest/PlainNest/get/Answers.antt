use Rattle.std.proofs.Common.{◌≤◌, ap, subst, arith}
use Rattle.position_core.specs.declared.reshape.Size.{Size}
use Rattle.nest_core.proofs.Wholes.{below, beside, inside}
use Rattle.nest_core.proofs.plain_nest.PlainNest.get.Goals as goal

pub returns-then-row-size-clause-value : goal.returns-then-row-size-clause-value
returns-then-row-size-clause-value g c =
    let F : Size → Type 0 = λ z. z.rows ≤ c.args.row in
    below (g.B.Book.contents c.args.book.now) c.args.self.now.held c.args.row c.args.column c.args.self.now.sound (subst F c.size-size.ensures c.if-row-size.true)

pub returns-then-column-size-clause-value : goal.returns-then-column-size-clause-value
returns-then-column-size-clause-value g c =
    let F : Size → Type 0 = λ z. z.columns ≤ c.args.column in
    beside (g.B.Book.contents c.args.book.now) c.args.self.now.held c.args.row c.args.column c.args.self.now.sound (subst F c.size-size.ensures c.if-column-size.true)

pub returns-clause-value : goal.returns-clause-value
returns-clause-value g c =
    inside (g.B.Book.contents c.args.book.now) c.args.self.now.held c.args.row c.args.column c.in_ok-element.element c.args.self.now.sound
    (omega (arith, c.if-row-size.false, ap (λ (z : Size). z.rows) c.size-size.ensures))
    (omega (arith, c.if-column-size.false, ap (λ (z : Size). z.columns) c.size-size.ensures))
    c.in_ok-element.ensures.value
