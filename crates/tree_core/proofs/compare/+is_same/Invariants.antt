-- What was compared so far is alike in both, and the same stands at both.
use Rattle.std.proofs.Common.{◌≡◌, length, take}
use Rattle.tree_core.specs.Flags.{told_here}
use Rattle.tree_core.specs.View.{here_in, parts_in}
use Rattle.tree_core.proofs.Told.{Same}
use Rattle.tree_core.proofs.compare.+is_same.Given as goal

abbrev pub invariant-loop-index : goal.invariant-loop-index
invariant-loop-index l = Same l.flags (take l.index (parts_in l.view)) (take l.index (parts_in l.other))
