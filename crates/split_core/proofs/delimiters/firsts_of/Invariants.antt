-- The table of the delimiters so far.
use Rattle.std.proofs.Common.{take}
use Rattle.split_core.specs.Pieces.{HasFirsts}
use Rattle.split_core.proofs.delimiters.firsts_of.Given as goal

abbrev pub invariant-loop-text : goal.invariant-loop-text
invariant-loop-text l = HasFirsts (take l.text-index l.texts) l.firsts
