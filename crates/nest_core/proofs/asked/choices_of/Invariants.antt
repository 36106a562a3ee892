-- The numbers so far, and those of what is left.
use Rattle.std.proofs.Common.{◌≡◌, ◌+◌, length}
use Rattle.book_core.specs.Contents.{no_contents}
use Rattle.argument_core.specs.Check.{each}
use Rattle.argument_core.proofs.Each.{joined}
use Rattle.array_functions.specs.Parts.{choice_in}
use Rattle.nest_core.proofs.asked.choices_of.Given as goal

abbrev pub invariant-loop-arg : goal.invariant-loop-arg
invariant-loop-arg l =
    (joined l.numbers (each (choice_in no_contents l.cell l.total) l.arg-iterator.rest.items)
    ≡ each (choice_in no_contents l.cell l.total) l.fn.args.items)
    × (length l.numbers + length l.arg-iterator.rest.items ≡ length l.fn.args.items)
