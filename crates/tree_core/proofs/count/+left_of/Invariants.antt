-- What is left, and what is counted in the parts that are to come.
use Rattle.std.proofs.Common.{◌≡◌, ◌+◌, map, drop}
use Rattle.tree_core.specs.Count.{count_of, count_of_all}
use Rattle.tree_core.specs.Formula.{tree_of}
use Rattle.tree_core.specs.Tree.{forest}
use Rattle.tree_core.specs.View.{parts_in}
use Rattle.tree_core.proofs.count.+left_of.Given as goal

abbrev pub invariant-loop-index : goal.invariant-loop-index
invariant-loop-index l = l.most + count_of_all l.counted (forest (map tree_of (drop l.index (parts_in l.view)))) ≡ count_of l.counted (tree_of l.node) + l.left
