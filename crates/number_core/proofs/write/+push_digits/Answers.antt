use Rattle.std.proofs.Common.{arith}
use Rattle.std.proofs.lemmas.Grind.{common_steps}
use Rattle.number_core.proofs.Fraction.{some-place, digit-below, rest-below, digits-more}
use Rattle.number_core.proofs.write.+push_digits.Goals as goal

pub nonzero_div-rest : goal.nonzero_div-rest
nonzero_div-rest t c = some-place c.args.places _ c.pow-place.ensures

pub push_digit-requires : goal.push_digit-requires
push_digit-requires t c = digit-below c.args.places _ _ c.pow-place.ensures (omega arith) c.requires.rest

pub nonzero_rem-rest : goal.nonzero_rem-rest
nonzero_rem-rest t c = some-place c.args.places _ c.pow-place.ensures

pub push_digits-requires : goal.push_digits-requires
push_digits-requires t c = (omega arith, (omega arith, rest-below c.args.places _ _ c.pow-place.ensures))

pub returns : goal.returns
returns t c = let e = digits-more c.args.places c.args.rest _ c.pow-place.ensures (omega arith) (omega arith) in grind (arith, common_steps)
