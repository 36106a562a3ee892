use Rattle.std.proofs.Common.{Some, sym, ap}
use Rattle.tree_core.specs.Formula.{tree_of}
use Rattle.request_core.specs.Question.{question_in}
use Rattle.request_core.proofs.question.read_question.Goals as goal

pub returns-clause-found : goal.returns-clause-found
unfolding question_in
returns-clause-found c =
    rw (
      c.in_ok-member.ensures,
      c.in_ok-sheets.ensures.found,
      c.in_ok-member-2.ensures,
      c.in_ok-book.ensures.1,
      c.in_ok-member-3.ensures,
      c.in_ok-cell.ensures,
      c.in_ok-member-4.ensures,
      c.in_ok-formula.ensures.found,
    )
    (ap (λ book. Some (book, c.in_ok-cell.cell, tree_of c.in_ok-formula.formula)) (sym c.in_ok-book.ensures.2))
