-- Compiling goes on to the deepest of the arguments. What was compiled so far is what the arguments are as arrays.
use Rattle.std.proofs.Common.{◌≡◌, ◌+◌, ◌*◌, length, map, take, Ok}
use denote.Param.Weighed.{most}
use Rattle.book_core.specs.Contents.{Contents}
use Rattle.kind_table.specs.Table.{Table}
use Rattle.tree_core.specs.Formula.{tree_of}
use Rattle.tree_core.specs.declared.node.Node.{size-Node}
use Rattle.argument_core.specs.Argument.{array_in}
use Rattle.argument_core.specs.Check.{each}
use Rattle.nest_core.specs.Rows.{rows_in}
use Rattle.eval_core.specs.Meaning.{found_of}
use Rattle.eval_core.specs.Setting.{setting}
use Rattle.view_core.proofs.compiling.+compiling.Given as goal

abbrev pub decreases-compile : goal.decreases-compile
decreases-compile l = 3 * size-Node l.node.now

abbrev pub decreases-compiled_call : goal.decreases-compiled_call
decreases-compiled_call l = 3 * most size-Node l.args.now + 2

abbrev pub decreases-compile_all : goal.decreases-compile_all
decreases-compile_all l = 3 * most size-Node l.nodes.now + 1

abbrev pub invariant-compile_all-loop-node : goal.invariant-compile_all-loop-node
invariant-compile_all-loop-node l =
    (length l.parts.items ≡ l.node-index)
    × ((table : Table) (book : Contents) → each (array_in book l.cell) (map (λ node. found_of (setting table book l.limit l.cell) (tree_of node)) (take l.node-index l.nodes))
    ≡ Ok (map (rows_in book) l.parts.items))
