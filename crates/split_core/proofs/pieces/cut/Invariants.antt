-- What was found, and what is kept of the rest, is what is kept of the whole; the piece begins with a character.
use Rattle.std.proofs.Common.{◌≡◌, ◌++◌, map, IsCharBoundary}
use Rattle.std.specs.List.{filter}
use Rattle.split_core.proofs.Cutting.{rest_pieces}
use Rattle.split_core.specs.Split.{kept_pieces, stays}
use Rattle.split_core.proofs.pieces.cut.Given as goal

abbrev pub invariant-loop-place : goal.invariant-loop-place
invariant-loop-place l = record {
  kept : map (λ piece. piece.now) l.found.items ++ filter (stays l.manner.ignore_empty) (rest_pieces l.manner.blind l.delimiters.texts.now l.text l.start l.place) ≡ kept_pieces l.manner.ignore_empty l.manner.blind l.delimiters.texts.now l.text;
  start : IsCharBoundary l.text l.start;
}
