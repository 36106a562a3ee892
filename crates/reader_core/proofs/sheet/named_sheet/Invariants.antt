-- No sheet before this one has the name.
use Rattle.std.proofs.Common.{◌≡◌, ℕ, ◌<◌, false, [], get_or}
use Rattle.reader_core.specs.Sheet.{is_name}
use Rattle.reader_core.proofs.sheet.named_sheet.Given as goal

abbrev pub invariant-loop-sheet : goal.invariant-loop-sheet
invariant-loop-sheet g l = (k : ℕ) → k < l.sheet → is_name l.head (get_or (g.B.Book.contents l.book).sheets k []) ≡ false
