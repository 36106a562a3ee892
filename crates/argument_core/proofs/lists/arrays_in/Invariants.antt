-- The arrays so far, and those of what is left.
use Rattle.std.proofs.Common.{◌≡◌, ◌+◌, length}
use Rattle.argument_core.specs.Check.{each}
use Rattle.argument_core.specs.Argument.{array_in}
use Rattle.argument_core.proofs.Each.{joined}
use Rattle.argument_core.proofs.lists.arrays_in.Given as goal

abbrev pub invariant-loop-arg : goal.invariant-loop-arg
invariant-loop-arg g l =
    (joined l.grids.items (each (array_in (g.B.Book.contents l.book) l.cell) l.arg-iterator.rest.items)
    ≡ each (array_in (g.B.Book.contents l.book) l.cell) l.fn.args.items)
    × (length l.grids.items + length l.arg-iterator.rest.items ≡ length l.fn.args.items)
