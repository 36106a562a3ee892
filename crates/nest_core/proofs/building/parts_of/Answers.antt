use Rattle.std.proofs.Common.{◌≡◌, length, arith, rules}
use Rattle.nest_core.proofs.Builts.{kept-sizes}
use Rattle.nest_core.proofs.building.parts_of.Goals as goal

pub invariant_of-result : goal.invariant_of-result
invariant_of-result c =
    let ended : length c.loop-plain_nest.plain_nest-iterator.rest.items ≡ 0 = search (rules, arith) in
    record { sound = kept-sizes c.args.plain_nests.items c.loop-plain_nest.plain_nest-iterator.rest.items c.loop-plain_nest.sizes c.loop-plain_nest.nests ended c.loop-plain_nest.invariant.0 c.loop-plain_nest.invariant.1 }
