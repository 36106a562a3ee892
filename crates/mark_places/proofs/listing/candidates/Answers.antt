use Rattle.mark_places.proofs.Listed.{from-start}
use Rattle.mark_places.proofs.listing.candidates.Goals as goal

-- src/listing.rt:15:1
pub returns : goal.returns
returns g c = from-start c.new-path.result.items c.new-places.result.items c.list.new.places.items _ c.new-path.ensures.items c.new-places.ensures.items c.in_ok-list.ensures.listed
