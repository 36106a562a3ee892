use Rattle.std.proofs.Common.{ℕ, ◌+◌, ◌≤◌, subst, ◌∙◌}
use Rattle.nest_core.proofs.Wholes.{counted-nest, whole-nest}
use Rattle.nest_core.proofs.plain_nest.PlainNest.grid.Goals as goal

pub returns-in_err-grid-clause-counted : goal.returns-in_err-grid-clause-counted
returns-in_err-grid-clause-counted g c =
    let F : ℕ → Type 0 = λ n. c.grid_of.new.steps ≤ c.args.steps.now + n in
    subst F (counted-nest (g.B.Book.contents c.args.book.now) c.args.self.now.held c.args.self.now.sound) c.grid_of.ensures.counted

pub returns-clause-value : goal.returns-clause-value
returns-clause-value g c = c.in_ok-grid.ensures.value ∙ whole-nest (g.B.Book.contents c.args.book.now) c.args.self.now.held c.args.self.now.sound

pub returns-clause-counted : goal.returns-clause-counted
returns-clause-counted g c =
    let F : ℕ → Type 0 = λ n. c.grid_of.new.steps ≤ c.args.steps.now + n in
    subst F (counted-nest (g.B.Book.contents c.args.book.now) c.args.self.now.held c.args.self.now.sound) c.grid_of.ensures.counted
