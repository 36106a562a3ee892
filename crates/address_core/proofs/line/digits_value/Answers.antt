use Rattle.std.proofs.Common.{arith}
use Rattle.address_core.proofs.Digits.{digit-is, digits-more, room-before, room-more}
use Rattle.address_core.proofs.line.digits_value.Goals as goal

pub overflow_mul-number : goal.overflow_mul-number
overflow_mul-number c = omega (arith, room-before _ _ 6 c.loop-digit.invariant.small (omega arith))

pub overflow_add-number : goal.overflow_add-number
overflow_add-number c = omega (arith, room-before _ _ 6 c.loop-digit.invariant.small (omega arith), c.from.ensures, (digit-is c.args.digits.now c.loop-digit.digit-index (omega arith) c.requires.all).1)

pub loop-digit-preserved : goal.loop-digit-preserved
loop-digit-preserved c = record {
  same = digits-more c.args.digits.now c.loop-digit.digit-index _ _ (omega arith) c.requires.all c.loop-digit.invariant.same c.from.ensures;
  small = room-more _ _ _ c.loop-digit.invariant.small (omega (arith, c.from.ensures, (digit-is c.args.digits.now c.loop-digit.digit-index (omega arith) c.requires.all).1));
}

pub returns-clause-small : goal.returns-clause-small
returns-clause-small c = room-before _ _ 7 c.loop-digit.invariant.small (omega (arith, c.loop-digit-test.false, c.requires.few))
