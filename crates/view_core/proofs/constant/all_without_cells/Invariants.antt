-- What was found so far.
use Rattle.std.proofs.Common.{◌≡◌, map, take}
use Rattle.result_core.specs.declared.found.Found.TheVariants.{Same}
use Rattle.tree_core.specs.Formula.{tree_of}
use Rattle.view_core.specs.Compiled.{without_cells}
use Rattle.view_core.proofs.constant.all_without_cells.Given as goal

abbrev pub invariant-loop-node : goal.invariant-loop-node
invariant-loop-node l = l.all.items ≡ map (λ node. Same (without_cells l.cell (tree_of node))) (take l.node-index l.nodes)
