use Rattle.std.proofs.Common.{subst, codes}
use Rattle.book_core.specs.Contents.{IsAddedSheet}
use Rattle.book_core.specs.Held.{contents_of}
use Rattle.generator_core.proofs.Rows.{no-rows}
use Rattle.generator_core.proofs.book.generated_book.Goals as goal

pub loop-filled-init : goal.loop-filled-init
loop-filled-init c =
    no-rows c.args.seed (contents_of c.new-book.result) (contents_of c.add_sheet.new.self) c.new-book.ensures.contents
    (subst (λ name. IsAddedSheet (contents_of c.new-book.result) (contents_of c.add_sheet.new.self) name) c.in_ok-from_text.ensures c.in_ok-add_sheet.ensures.done)
