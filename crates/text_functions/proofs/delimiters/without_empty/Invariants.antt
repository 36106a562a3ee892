-- Those that stay of the texts so far.
use Rattle.std.proofs.Common.{◌≡◌, take, true}
use Rattle.std.specs.List.{filter}
use Rattle.split_core.specs.Split.{stays}
use Rattle.text_functions.proofs.delimiters.without_empty.Given as goal

abbrev pub invariant-loop-index : goal.invariant-loop-index
invariant-loop-index l = l.kept.items ≡ filter (stays true) (take l.index l.texts)
