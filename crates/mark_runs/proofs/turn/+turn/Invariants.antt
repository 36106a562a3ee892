-- An `@` goes or stands again down to the parts of a node, and of a call's deepest argument after the call.
use Rattle.std.proofs.Common.{◌≡◌, ◌+◌, ◌*◌, ◌≤◌, [], ◌∷◌, drop, map}
use Rattle.std.specs.Prelude.{sum}
use denote.Param.Weighed.{most}
use Rattle.tree_core.specs.Formula.{tree_of}
use Rattle.tree_core.specs.Tree.{forest}
use Rattle.tree_core.specs.declared.node.Node.{size-Node}
use Rattle.mark_core.specs.Mark.{calls_in}
use Rattle.mark_runs.specs.Turned.{turned_row}
use Rattle.mark_runs.proofs.turn.+turn.Given as goal

abbrev pub decreases-turn : goal.decreases-turn
decreases-turn g l = 4 * size-Node l.formula.now

abbrev pub decreases-turn_part : goal.decreases-turn_part
decreases-turn_part g l = 4 * size-Node l.part.now + 1

abbrev pub decreases-turn_over_one : goal.decreases-turn_over_one
decreases-turn_over_one g l = 4 * size-Node l.part.now + 2

abbrev pub decreases-turn_over_two : goal.decreases-turn_over_two
decreases-turn_over_two g l = 4 * most size-Node (l.left.now ∷ l.right.now ∷ []) + 2

abbrev pub decreases-turn_all : goal.decreases-turn_all
decreases-turn_all g l = 4 * most size-Node l.args.now + 2

abbrev pub decreases-turn_over_all : goal.decreases-turn_over_all
decreases-turn_over_all g l = 4 * most size-Node l.args.now + 3

abbrev pub invariant-turn_all-loop-index : goal.invariant-turn_all-loop-index
invariant-turn_all-loop-index g l = record {
  row : turned_row (g.K.Kinds.table l.kinds) l.out (record { shapes = l.shapes; shows = l.shows; marks = l.marks }) l.index (forest (map tree_of (drop l.index l.arg-items)))
      ≡ turned_row (g.K.Kinds.table l.kinds) l.out (record { shapes = l.initial.shapes; shows = l.initial.shows; marks = l.initial.marks }) 0 (forest (map tree_of l.arg-items));
  counted : l.steps + sum (map calls_in (drop l.index l.marks)) ≤ l.initial.steps + sum (map calls_in l.initial.marks);
}
