-- The path is as it was; what was found are the places of the node and of the parts until now.
use Rattle.std.proofs.Common.{◌≡◌, ◌++◌, map}
use Rattle.mark_places.proofs.Listed.{listed}
use Rattle.mark_places.proofs.listing.+list.Given as goal

abbrev pub invariant-loop-index : goal.invariant-loop-index
invariant-loop-index g l =
    (l.path.items ≡ l.fn.path.items) × (l.places.items ≡ l.fn.places.items ++ map (λ place. l.fn.path.items ++ place) (listed l.rule (g.K.Kinds.table l.kinds) l.mark l.wanted l.index))
