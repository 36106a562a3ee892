-- The answers of ROW, COLUMN, ROWS, COLUMNS, AREAS and FORMULATEXT fit.
use Rattle.std.proofs.Common.{◌≡◌, ℕ, ◌≤◌, ◌==◌, pos, ◌*ℤ◌, arith, Bool, true, false, ◌&&◌, cond, List, [], ◌∷◌, map, Option, Some, None, Ok, Err, refl}
use Rattle.std.specs.List.{AllZip}
use Rattle.value_core.specs.declared.error.Error.{Error}
use Rattle.value_core.specs.declared.position.CellReferenceIndex.{CellReferenceIndex}
use Rattle.value_core.specs.declared.position.Range.{Range}
use Rattle.number_core.specs.Number.{in_range}
use Rattle.rectangle_core.specs.Rectangle.{rectangle, height, width}
use Rattle.rectangle_core.proofs.Rectangles.{height-rectangle, width-rectangle}
use Rattle.book_core.specs.Contents.{Contents, cell_in, line_count}
use Rattle.grid_core.specs.declared.calc_result.CalcResult.{CalcResult}
use Rattle.grid_core.specs.declared.calc_result.CalcResult.TheVariants as calc
use Rattle.kind_table.specs.Fit.{Fits, SizeFits}
use Rattle.kind_table.specs.OwnRow.{line_row, own_row, unless_varied}
use Rattle.kind_table.specs.declared.shown.Shown.{Shown}
use Rattle.kind_table.specs.declared.shown.Shown.TheVariants as shown
use Rattle.kind_table.specs.declared.static_result.StaticResult.{StaticResult}
use Rattle.kind_table.specs.declared.static_result.StaticResult.TheVariants as static
use Rattle.call_core.specs.declared.function.Function.TheVariants.{Row, Column}
use Rattle.reference_core.specs.Extent.{columns_of, rows_of}
use Rattle.result_core.specs.Finding.{in_context, value_found, value_of, with_reference}
use Rattle.result_core.specs.Single.{range_in}
use Rattle.result_core.specs.declared.found.Found.{Found}
use Rattle.result_core.specs.declared.found.Found.TheVariants.{Cell, Same}
use Rattle.argument_core.specs.Check.{after}
use Rattle.argument_core.specs.Count.{one}
use Rattle.reference_functions.specs.Numbering.{column_call, column_grid, column_numbers, column_of, line_number, numbered, row_call, row_grid, row_numbers, row_of}
use Rattle.reference_functions.specs.Sizing.{areas_call, areas_in, columns_call, columns_in, count_result, rows_call, rows_in}
use Rattle.reference_functions.specs.Formula.{formula_in, formula_text_call, text_or_none}
use Rattle.reference_fits.specs.Known.{IsRangeShown, ShownIs}
use Rattle.reference_fits.specs.AnswersFit.{AnswerFits}
use Rattle.reference_fits.proofs.Sizes.{after-fits, one-line, rectangle-fits, unknown-fits}

-- ---- the numbers of rows and of columns

module _ (book : Contents) (cell : CellReferenceIndex) where
  row-numbers : (range : Range) (s : StaticResult) (alone : Bool) → SizeFits s (rows_of range) 1
      → Fits s (value_of book (cond alone (calc.Number (line_number range.left.row)) (calc.Array (row_grid range))))
  row-numbers range s true e = tt
  row-numbers range s false e = rectangle-fits s (rows_of range) 1 (λ i j. numbered range.left.row i) e

  column-numbers : (range : Range) (s : StaticResult) (alone : Bool) → SizeFits s 1 (columns_of range)
      → Fits s (value_of book (cond alone (calc.Number (line_number range.left.column)) (calc.Array (column_grid range))))
  column-numbers range s true e = tt
  column-numbers range s false e = rectangle-fits s 1 (columns_of range) (λ i j. numbered range.left.column j) e

  -- a result with reference whose range has one row
  one-row : (made : CalcResult) → IsRangeShown true false made → AnswerFits book static.Scalar (after (range_in made) (λ range. Ok (row_numbers range)))
  one-row (calc.Range left right) h = let e = h.0 refl in row-numbers (record { left = left; right = right }) static.Scalar (line_count left.row right.row == 1) (omega (arith, e), omega arith)
  one-row (calc.Number n) h = tt
  one-row (calc.Boolean b) h = tt
  one-row (calc.String text) h = tt
  one-row (calc.Error e origin) h = tt
  one-row (calc.Array rows) h = tt
  one-row calc.EmptyCell h = tt
  one-row calc.EmptyArg h = tt

  one-column : (made : CalcResult) → IsRangeShown false true made → AnswerFits book static.Scalar (after (range_in made) (λ range. Ok (column_numbers range)))
  one-column (calc.Range left right) h = let e = h.1 refl in column-numbers (record { left = left; right = right }) static.Scalar (line_count left.column right.column == 1) (omega arith, omega (arith, e))
  one-column (calc.Number n) h = tt
  one-column (calc.Boolean b) h = tt
  one-column (calc.String text) h = tt
  one-column (calc.Error e origin) h = tt
  one-column (calc.Array rows) h = tt
  one-column calc.EmptyCell h = tt
  one-column calc.EmptyArg h = tt

  -- a part of what is known of a range
  rows-known : (row column : Bool) (made : CalcResult) → row ≡ true → IsRangeShown row column made → IsRangeShown true false made
  rows-known row column (calc.Range left right) e h = ((λ _. h.0 e), (λ no. absurd cc))
  rows-known row column (calc.Number n) e h = tt
  rows-known row column (calc.Boolean b) e h = tt
  rows-known row column (calc.String text) e h = tt
  rows-known row column (calc.Error x origin) e h = tt
  rows-known row column (calc.Array rows) e h = tt
  rows-known row column calc.EmptyCell e h = tt
  rows-known row column calc.EmptyArg e h = tt

  columns-known : (row column : Bool) (made : CalcResult) → column ≡ true → IsRangeShown row column made → IsRangeShown false true made
  columns-known row column (calc.Range left right) e h = ((λ no. absurd cc), (λ _. h.1 e))
  columns-known row column (calc.Number n) e h = tt
  columns-known row column (calc.Boolean b) e h = tt
  columns-known row column (calc.String text) e h = tt
  columns-known row column (calc.Error x origin) e h = tt
  columns-known row column (calc.Array rows) e h = tt
  columns-known row column calc.EmptyCell e h = tt
  columns-known row column calc.EmptyArg e h = tt

  -- what has one value has one row and one column with reference
  scalar-rows : (rows columns : ℕ) (left : CellReferenceIndex) → 1 ≤ rows
      → SizeFits static.Scalar (height (rectangle rows columns (λ i j. book.value (cell_in left i j)))) (width (rectangle rows columns (λ i j. book.value (cell_in left i j)))) → rows ≤ 1
  scalar-rows rows columns left p e = let h = height-rectangle rows columns (λ i j. book.value (cell_in left i j)) in let f = e.0 in omega (arith, h, f)

  scalar-columns : (rows columns : ℕ) (left : CellReferenceIndex) → 1 ≤ rows
      → SizeFits static.Scalar (height (rectangle rows columns (λ i j. book.value (cell_in left i j)))) (width (rectangle rows columns (λ i j. book.value (cell_in left i j)))) → columns ≤ 1
  scalar-columns rows columns left p e = let w = width-rectangle rows columns (λ i j. book.value (cell_in left i j)) p in let f = e.1 in omega (arith, w, f)

  scalar-known : (found : Found) → Fits static.Scalar (value_found book cell found) → IsRangeShown true true (with_reference found)
  scalar-known (Cell at) h = ((λ _. one-line at.row), (λ _. one-line at.column))
  scalar-known (Same (calc.Range left right)) h =
      let r = scalar-rows (line_count left.row right.row) (line_count left.column right.column) left (omega arith) h in
      let c = scalar-columns (line_count left.row right.row) (line_count left.column right.column) left (omega arith) h in
      ((λ _. omega (arith, r)), (λ _. omega (arith, c)))
  scalar-known (Same (calc.Number n)) h = tt
  scalar-known (Same (calc.Boolean b)) h = tt
  scalar-known (Same (calc.String text)) h = tt
  scalar-known (Same (calc.Error e origin)) h = tt
  scalar-known (Same (calc.Array rows)) h = tt
  scalar-known (Same calc.EmptyCell) h = tt
  scalar-known (Same calc.EmptyArg) h = tt

  -- by what a bare range shows, and else by the argument's shape
  row-varied : (row column : Bool) (found : Found) → IsRangeShown row column (with_reference found) → AnswerFits book (unless_varied row) (row_of cell (Some found))
  row-varied true column found h = one-row (with_reference found) (rows-known true column (with_reference found) refl h)
  row-varied false column found h = unknown-fits book (row_of cell (Some found))

  column-varied : (row column : Bool) (found : Found) → IsRangeShown row column (with_reference found) → AnswerFits book (unless_varied column) (column_of cell (Some found))
  column-varied row true found h = one-column (with_reference found) (columns-known row true (with_reference found) refl h)
  column-varied row false found h = unknown-fits book (column_of cell (Some found))

  row-shaped : (s : StaticResult) (found : Found) → Fits s (value_found book cell found) → AnswerFits book (line_row None (s ∷ [])) (row_of cell (Some found))
  row-shaped static.Scalar found h = one-row (with_reference found) (rows-known true true (with_reference found) refl (scalar-known found h))
  row-shaped (static.Array a b) found h = unknown-fits book (row_of cell (Some found))
  row-shaped (static.Range a b) found h = unknown-fits book (row_of cell (Some found))
  row-shaped static.Unknown found h = unknown-fits book (row_of cell (Some found))

  column-shaped : (s : StaticResult) (found : Found) → Fits s (value_found book cell found) → AnswerFits book (line_row None (s ∷ [])) (column_of cell (Some found))
  column-shaped static.Scalar found h = one-column (with_reference found) (columns-known true true (with_reference found) refl (scalar-known found h))
  column-shaped (static.Array a b) found h = unknown-fits book (column_of cell (Some found))
  column-shaped (static.Range a b) found h = unknown-fits book (column_of cell (Some found))
  column-shaped static.Unknown found h = unknown-fits book (column_of cell (Some found))

  pub row-fits : (shows : List Shown) (ss : List StaticResult) (args : List Found) → AllZip Fits ss (map (value_found book cell) args) → AllZip ShownIs shows args
      → AnswerFits book (own_row Row shows ss) (row_call cell args)
  row-fits shows ss [] fit known = tt
  row-fits [] ss (found ∷ []) fit known = absurd known
  row-fits (sh ∷ shows) [] (found ∷ []) fit known = absurd fit
  row-fits (shown.Range row column ∷ shows) (s ∷ ss) (found ∷ []) fit known = row-varied row column found known.0
  row-fits (shown.Reference ∷ shows) (static.Scalar ∷ ss) (found ∷ []) fit known = row-shaped static.Scalar found fit.0
  row-fits (shown.Reference ∷ shows) (s ∷ ss) (found ∷ []) fit known = unknown-fits book (row_of cell (Some found))
  row-fits (shown.One ∷ shows) (static.Scalar ∷ ss) (found ∷ []) fit known = row-shaped static.Scalar found fit.0
  row-fits (shown.One ∷ shows) (s ∷ ss) (found ∷ []) fit known = unknown-fits book (row_of cell (Some found))
  row-fits (shown.Nothing ∷ shows) (static.Scalar ∷ ss) (found ∷ []) fit known = row-shaped static.Scalar found fit.0
  row-fits (shown.Nothing ∷ shows) (s ∷ ss) (found ∷ []) fit known = unknown-fits book (row_of cell (Some found))
  row-fits shows ss (found ∷ other ∷ args) fit known = tt

  pub column-fits : (shows : List Shown) (ss : List StaticResult) (args : List Found) → AllZip Fits ss (map (value_found book cell) args) → AllZip ShownIs shows args
      → AnswerFits book (own_row Column shows ss) (column_call cell args)
  column-fits shows ss [] fit known = tt
  column-fits [] ss (found ∷ []) fit known = absurd known
  column-fits (sh ∷ shows) [] (found ∷ []) fit known = absurd fit
  column-fits (shown.Range row column ∷ shows) (s ∷ ss) (found ∷ []) fit known = column-varied row column found known.0
  column-fits (shown.Reference ∷ shows) (static.Scalar ∷ ss) (found ∷ []) fit known = column-shaped static.Scalar found fit.0
  column-fits (shown.Reference ∷ shows) (s ∷ ss) (found ∷ []) fit known = unknown-fits book (column_of cell (Some found))
  column-fits (shown.One ∷ shows) (static.Scalar ∷ ss) (found ∷ []) fit known = column-shaped static.Scalar found fit.0
  column-fits (shown.One ∷ shows) (s ∷ ss) (found ∷ []) fit known = unknown-fits book (column_of cell (Some found))
  column-fits (shown.Nothing ∷ shows) (static.Scalar ∷ ss) (found ∷ []) fit known = column-shaped static.Scalar found fit.0
  column-fits (shown.Nothing ∷ shows) (s ∷ ss) (found ∷ []) fit known = unknown-fits book (column_of cell (Some found))
  column-fits shows ss (found ∷ other ∷ args) fit known = tt

  -- ---- one value

  count-fits : (s : StaticResult) (count : ℕ) → AnswerFits book s (count_result count)
  count-fits s count = after-fits book s (in_range (pos count *ℤ pos 1000000)) (λ number. Ok (calc.Number number)) (λ number. tt)

  pub rows-fit : (s : StaticResult) (args : List Found) → AnswerFits book s (rows_call args)
  rows-fit s args = after-fits book s (one args) (λ found. after (rows_in (with_reference found)) count_result)
      (λ found. after-fits book s (rows_in (with_reference found)) count_result (count-fits s))

  pub columns-fit : (s : StaticResult) (args : List Found) → AnswerFits book s (columns_call args)
  columns-fit s args = after-fits book s (one args) (λ found. after (columns_in (with_reference found)) count_result)
      (λ found. after-fits book s (columns_in (with_reference found)) count_result (count-fits s))

  area-fits : (s : StaticResult) (made : CalcResult) → AnswerFits book s (areas_in made)
  area-fits s (calc.Number n) = tt
  area-fits s (calc.Boolean b) = tt
  area-fits s (calc.String text) = tt
  area-fits s (calc.Error e origin) = tt
  area-fits s (calc.Range left right) = tt
  area-fits s (calc.Array rows) = tt
  area-fits s calc.EmptyCell = tt
  area-fits s calc.EmptyArg = tt

  pub areas-fit : (s : StaticResult) (args : List Found) → AnswerFits book s (areas_call book cell args)
  areas-fit s args = after-fits book s (one args) (λ found. areas_in (in_context book cell found)) (λ found. area-fits s (in_context book cell found))

  text-fits : (s : StaticResult) (text : Option (List ℕ)) → AnswerFits book s (text_or_none text)
  text-fits s (Some text) = tt
  text-fits s None = tt

  text-if : (s : StaticResult) (test : Bool) (text : Option (List ℕ)) (e : Error) → AnswerFits book s (cond test (text_or_none text) (Err e))
  text-if s true text e = text-fits s text
  text-if s false text e = tt

  formula-fits : (s : StaticResult) (made : CalcResult) → AnswerFits book s (formula_in book made)
  formula-fits s (calc.Range left right) = text-if s (line_count left.row right.row == 1 && line_count left.column right.column == 1) (book.formula left) _
  formula-fits s (calc.Number n) = tt
  formula-fits s (calc.Boolean b) = tt
  formula-fits s (calc.String text) = tt
  formula-fits s (calc.Error e origin) = tt
  formula-fits s (calc.Array rows) = tt
  formula-fits s calc.EmptyCell = tt
  formula-fits s calc.EmptyArg = tt

  pub formula-text-fits : (s : StaticResult) (args : List Found) → AnswerFits book s (formula_text_call book args)
  formula-text-fits s args = after-fits book s (one args) (λ found. formula_in book (with_reference found)) (λ found. formula-fits s (with_reference found))
