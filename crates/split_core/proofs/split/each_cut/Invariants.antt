-- The pieces of the rows so far.
use Rattle.std.proofs.Common.{◌≡◌, map, take}
use Rattle.split_core.specs.Split.{kept_pieces}
use Rattle.split_core.proofs.split.each_cut.Given as goal

abbrev pub invariant-loop-index : goal.invariant-loop-index
invariant-loop-index l =
    map (λ row. map (λ piece. piece.now) row.items) l.cut.items ≡ map (kept_pieces l.manner.ignore_empty l.manner.blind l.delimiters.texts.now) (map (λ row. row.now) (take l.index l.rows))
