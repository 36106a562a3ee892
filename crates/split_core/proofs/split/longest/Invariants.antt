-- The longest row so far, and those that are left.
use Rattle.std.proofs.Common.{◌≡◌, drop, map, max}
use Rattle.split_core.specs.Split.{longest}
use Rattle.split_core.proofs.split.longest.Given as goal

abbrev pub invariant-loop-row : goal.invariant-loop-row
invariant-loop-row l = max l.most (longest (map (λ row. map (λ piece. piece.now) row.items) (drop l.row-index l.rows))) ≡ longest (map (λ row. map (λ piece. piece.now) row.items) l.rows)
