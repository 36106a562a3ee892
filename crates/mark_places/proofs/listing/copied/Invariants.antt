-- What was copied is the front of the path.
use Rattle.std.proofs.Common.{◌≡◌, take}
use Rattle.mark_places.proofs.listing.copied.Given as goal

abbrev pub invariant-loop-index : goal.invariant-loop-index
invariant-loop-index l = l.place ≡ take l.index-index l.path
