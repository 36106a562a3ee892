-- The numbers so far, and those of what is left.
use Rattle.std.proofs.Common.{◌≡◌, ◌+◌, length}
use Rattle.argument_core.specs.Check.{each}
use Rattle.argument_core.proofs.Each.{joined}
use Rattle.array_functions.specs.Parts.{choice_in}
use Rattle.array_functions.proofs.parts.choices_in.Given as goal

abbrev pub invariant-loop-arg : goal.invariant-loop-arg
invariant-loop-arg g l =
    (joined l.numbers.items (each (choice_in (g.B.Book.contents l.book) l.cell l.total) l.arg-iterator.rest.items)
    ≡ each (choice_in (g.B.Book.contents l.book) l.cell l.total) l.fn.args.items)
    × (length l.numbers.items + length l.arg-iterator.rest.items ≡ length l.fn.args.items)
