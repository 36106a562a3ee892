-- The cells so far are in the book.
use Rattle.request_core.proofs.Filling.{Filled}
use Rattle.request_core.proofs.book.read_book.Given as goal

abbrev pub invariant-loop-item : goal.invariant-loop-item
invariant-loop-item l = Filled l.sheet_count l.items l.fn.sheets l.book l.item-index
