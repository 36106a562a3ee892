use Rattle.std.proofs.Common.{arith}
use Rattle.std.proofs.lemmas.Int.{to_z-of_z}
use Rattle.position_core.proofs.position.position_in.Goals as goal

pub overflow_add-row : goal.overflow_add-row
overflow_add-row c = grind (arith, to_z-of_z, rw c.in-Take.is at c.requires.row_within, c.taken_from.ensures.within)

pub overflow_add-column : goal.overflow_add-column
overflow_add-column c = grind (arith, to_z-of_z, rw c.in-Take.is at c.requires.column_within, c.taken_from_if.ensures.within)

pub overflow_add-row-in-DropOff : goal.overflow_add-row-in-DropOff
overflow_add-row-in-DropOff c = grind (arith, to_z-of_z, rw c.in-DropOff.is at c.requires.row_within, c.dropped_from.ensures.within)

pub overflow_add-column-in-DropOff : goal.overflow_add-column-in-DropOff
overflow_add-column-in-DropOff c = grind (arith, to_z-of_z, rw c.in-DropOff.is at c.requires.column_within, c.dropped_from_if.ensures.within)
