-- What matches among the delimiters that are left is what matches.
use Rattle.std.proofs.Common.{◌≡◌, drop}
use Rattle.split_core.specs.Pieces.{matched}
use Rattle.split_core.proofs.matching.matched.Given as goal

abbrev pub invariant-loop-delimiter : goal.invariant-loop-delimiter
invariant-loop-delimiter l = matched l.blind (drop l.delimiter-index l.delimiters) (drop l.place l.text) ≡ matched l.blind l.delimiters (drop l.place l.text)
