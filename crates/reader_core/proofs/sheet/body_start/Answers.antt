use Rattle.std.proofs.Common.{arith}
use Rattle.reader_core.proofs.Places.{start-is}
use Rattle.reader_core.proofs.sheet.body_start.Goals as goal

pub returns-else-text-start-ne33-clause-start : goal.returns-else-text-start-ne33-clause-start
returns-else-text-start-ne33-clause-start c =
    start-is c.args.text.now c.loop-start.start c.loop-start.invariant.within c.loop-start.invariant.none (λ _. c.if-text-start-ne33.false)

pub returns-after-loop-start-clause-start : goal.returns-after-loop-start-clause-start
returns-after-loop-start-clause-start c =
    start-is c.args.text.now c.loop-start.start c.loop-start.invariant.within c.loop-start.invariant.none (λ some. absurd (omega (arith, some, c.loop-start-test.false)))
