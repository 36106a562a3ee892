use Rattle.std.proofs.Common.{sym, ◌∙◌, arith}
use Rattle.reader_core.specs.Sheet.{is_name}
use Rattle.reader_core.proofs.Places.{first-is, none-is}
use Rattle.reader_core.proofs.sheet.named_sheet.Goals as goal

pub returns-then-has_name : goal.returns-then-has_name
returns-then-has_name g c =
    first-is (is_name c.args.head.now) (g.B.Book.contents c.args.book.now).sheets c.loop-sheet.sheet (omega (arith, c.loop-sheet-test.true, c.sheet_count-count.ensures)) c.loop-sheet.invariant
    (sym c.has_name.ensures ∙ c.if-has_name.true)

pub returns : goal.returns
returns g c =
    none-is (is_name c.args.head.now) (g.B.Book.contents c.args.book.now).sheets c.loop-sheet.sheet
    (omega (arith, c.loop-sheet-test.false, c.sheet_count-count.ensures, c.loop-sheet.auto.sheet-end)) c.loop-sheet.invariant
