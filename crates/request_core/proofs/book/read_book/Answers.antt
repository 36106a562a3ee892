use Rattle.std.proofs.Common.{◌≡◌, ℕ, List, length, sym, ap, ◌∙◌}
use Rattle.std.proofs.lemmas.Result.{err_from_is_err_and}
use Rattle.serde_json.specs.View.{view}
use Rattle.book_core.specs.Contents.{Contents, no_cells}
use Rattle.request_core.specs.Cells.{cells_in}
use Rattle.request_core.proofs.Filling.{cells_in-is, filled_first, filled_more, filled_all, refused_there, refused_held, refused_cell, refused_again}
use Rattle.request_core.proofs.book.read_book.Goals as goal

-- the book's count of sheets
count_is : (count : ℕ) (sheets : List (List ℕ)) (book : Contents) → book ≡ no_cells sheets → count ≡ length book.sheets → length sheets ≡ count
count_is count sheets book is counted = sym (counted ∙ ap (λ (book : Contents). length book.sheets) is)

pub loop-item-init : goal.loop-item-init
loop-item-init c = filled_first _ _ _ _ (record { contents = c.with_sheets-book.ensures.contents; held = c.with_sheets-book.ensures.none })

pub returns-in_err-cell : goal.returns-in_err-cell
returns-in_err-cell c =
    let p = err_from_is_err_and c.from_residual-in_err-cell.result c.from_residual-in_err-cell.ensures.1 in
    rw (p.1, p.2, count_is _ _ _ c.with_sheets-book.ensures.contents c.sheet_count-sheet_count.ensures)
    (refused_there _ _ _ _ c.in_err-cell.ensures (λ none. cells_in-is _ _ _ c.in_ok-items.ensures ∙ refused_cell _ _ _ _ _ c.loop-item.invariant _ c.loop-item-test.true c.item-item.is none))

pub returns-in_err-add_cell : goal.returns-in_err-add_cell
returns-in_err-add_cell c =
    let p = err_from_is_err_and c.from_residual-in_err-add_cell.result c.from_residual-in_err-add_cell.ensures.1 in
    rw (p.1, p.2, count_is _ _ _ c.with_sheets-book.ensures.contents c.sheet_count-sheet_count.ensures)
    (refused_held _ _ _ _ _ _ c.in_err-add_cell.ensures
    (λ held. cells_in-is _ _ _ c.in_ok-items.ensures ∙ refused_again _ _ _ _ _ c.loop-item.invariant _ c.loop-item-test.true c.item-item.is _ c.in_ok-cell.ensures held))

pub loop-item-preserved : goal.loop-item-preserved
loop-item-preserved c =
    filled_more _ _ _ _ _ c.loop-item.invariant _ c.loop-item-test.true c.item-item.is _ _ c.in_ok-cell.ensures c.in_ok-add_cell.ensures

pub returns : goal.returns
returns c = (
  c.loop-item.invariant.done,
  ap (λ count. cells_in count (view c.args.value.now)) (count_is _ _ _ c.with_sheets-book.ensures.contents c.sheet_count-sheet_count.ensures)
      ∙ cells_in-is _ _ _ c.in_ok-items.ensures ∙ filled_all _ _ _ _ _ c.loop-item.invariant c.loop-item-test.false,
  c.loop-item.invariant.has.contents,
)
