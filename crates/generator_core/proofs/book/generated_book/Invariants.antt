-- The first rows are filled.
use Rattle.std.proofs.Common.{◌≡◌}
use Rattle.book_core.specs.Held.{contents_of}
use Rattle.generator_core.specs.Sheet.{sheet_with}
use Rattle.generator_core.proofs.book.generated_book.Given as goal

abbrev pub invariant-loop-filled : goal.invariant-loop-filled
invariant-loop-filled l = contents_of l.book ≡ sheet_with l.seed l.filled
