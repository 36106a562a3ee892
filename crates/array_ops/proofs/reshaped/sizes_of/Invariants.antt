-- The sizes so far.
use Rattle.std.proofs.Common.{◌≡◌, map, take, All}
use Rattle.position_core.specs.Place.{HasPlaces}
use Rattle.array_ops.specs.Reshaped.{size_of}
use Rattle.array_ops.proofs.reshaped.sizes_of.Given as goal

abbrev pub invariant-loop-index : goal.invariant-loop-index
invariant-loop-index l = record {
  sizes : l.sizes.items ≡ map size_of (take l.index l.grids);
  places : All HasPlaces l.sizes.items;
}
