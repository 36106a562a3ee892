-- It goes from a node to its parts, and over the `@`s of a run; of the arguments until now all come back.
use Rattle.std.proofs.Common.{◌≡◌, map, ◌+◌, ◌*◌, drop}
use denote.Param.Weighed.{most}
use Rattle.tree_core.specs.Formula.{tree_of}
use Rattle.tree_core.specs.Tree.{forest}
use Rattle.tree_core.specs.declared.node.Node.{size-Node}
use Rattle.mark_return.specs.Return.{returns_from}
use Rattle.mark_return.proofs.returns.+returns.Given as goal

abbrev pub decreases-returns : goal.decreases-returns
decreases-returns g l = 4 * size-Node l.import.now + 1

abbrev pub decreases-parts_return : goal.decreases-parts_return
decreases-parts_return g l = 4 * size-Node l.import.now

abbrev pub decreases-arguments_return : goal.decreases-arguments_return
decreases-arguments_return g l = 4 * most size-Node l.args.now + 3

abbrev pub decreases-part_returns : goal.decreases-part_returns
decreases-part_returns g l = 4 * size-Node l.import.now + 2

abbrev pub invariant-arguments_return-loop-index : goal.invariant-arguments_return-loop-index
invariant-arguments_return-loop-index g l =
    returns_from l.rule (g.K.Kinds.table l.kinds) l.wanted l.mark 0 (forest (map tree_of l.arg-items))
    ≡ returns_from l.rule (g.K.Kinds.table l.kinds) l.wanted l.mark l.index (forest (map tree_of (drop l.index l.arg-items)))
