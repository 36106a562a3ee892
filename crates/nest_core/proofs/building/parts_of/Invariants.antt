-- The sizes and the nests so far, and those of what is left.
use Rattle.std.proofs.Common.{◌≡◌, ◌++◌, map}
use Rattle.nest_core.specs.Built.{held_in, size_of_nest}
use Rattle.nest_core.proofs.building.parts_of.Given as goal

abbrev pub invariant-loop-plain_nest : goal.invariant-loop-plain_nest
invariant-loop-plain_nest l =
    (l.sizes ++ map size_of_nest l.plain_nest-iterator.rest.items ≡ map size_of_nest l.fn.plain_nests.items)
    × (l.nests ++ map held_in l.plain_nest-iterator.rest.items ≡ map held_in l.fn.plain_nests.items)
