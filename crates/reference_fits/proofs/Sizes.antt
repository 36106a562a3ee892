-- Sizes that fit shapes.
--   size-smaller       a smaller size fits too
--   as_range-fits      a shape fits as a range what it fits
--   rectangle-fits     a rectangle of a size that fits
--   one-line           a line alone counts as one
--   cell-fits          the range of one cell, where one value fits
--   unknown-fits       every answer has a size that is unknown
--   after-fits         an answer after a check
use Rattle.std.proofs.Common.{◌≡◌, ℕ, zero, suc, ◌≤◌, ℤ, pos, negsuc, arith, Result, Ok, Err, sym, subst}
use Rattle.std.proofs.lemmas.Int.{ints}
use Rattle.value_core.specs.declared.array.ArrayNode.{ArrayNode}
use Rattle.value_core.specs.declared.error.Error.{Error}
use Rattle.value_core.specs.declared.position.CellReferenceIndex.{CellReferenceIndex}
use Rattle.rectangle_core.specs.Rectangle.{rectangle, height, width}
use Rattle.rectangle_core.proofs.Rectangles.{height-rectangle, width-rectangle}
use Rattle.rectangle_core.specs.declared.value.Value.{Value}
use Rattle.rectangle_core.specs.declared.value.Value.TheVariants.{One, Missing, Grid}
use Rattle.book_core.specs.Contents.{Contents, cell_in, line_count}
use Rattle.grid_core.specs.declared.calc_result.CalcResult.{CalcResult}
use Rattle.grid_core.specs.declared.calc_result.CalcResult.TheVariants as calc
use Rattle.kind_table.specs.Fit.{Fits, SizeFits}
use Rattle.kind_table.specs.Shape.{as_range}
use Rattle.kind_table.specs.declared.static_result.StaticResult.{StaticResult}
use Rattle.kind_table.specs.declared.static_result.StaticResult.TheVariants.{Scalar, Array, Range, Unknown}
use Rattle.result_core.specs.Finding.{value_of}
use Rattle.argument_core.specs.Check.{after}
use Rattle.reference_fits.specs.AnswersFit.{AnswerFits}

pub size-smaller : (s : StaticResult) (h w k v : ℕ) → h ≤ k → w ≤ v → SizeFits s k v → SizeFits s h w
size-smaller Scalar h w k v p q e = (omega arith, omega arith)
size-smaller (Array a b) h w k v p q e = (omega (arith, ints), omega (arith, ints))
size-smaller (Range a b) h w k v p q e = (omega (arith, ints), omega (arith, ints))
size-smaller Unknown h w k v p q e = tt

pub as_range-fits : (s : StaticResult) (h w : ℕ) → SizeFits s h w → SizeFits (as_range s) h w
as_range-fits Scalar h w e = e
as_range-fits (Array a b) h w e = e
as_range-fits (Range a b) h w e = e
as_range-fits Unknown h w e = e

zero-fits : (s : StaticResult) (w : ℕ) → SizeFits s 0 w → SizeFits s 0 0
zero-fits s w e = size-smaller s 0 0 0 w (omega arith) (omega arith) e

pub rectangle-fits : (s : StaticResult) (h w : ℕ) (f : ℕ → ℕ → ArrayNode) → SizeFits s h w → SizeFits s (height (rectangle h w f)) (width (rectangle h w f))
rectangle-fits s zero w f e = zero-fits s w e
rectangle-fits s (suc n) w f e = subst (λ h. SizeFits s h (width (rectangle (suc n) w f))) (sym (height-rectangle (suc n) w f))
    (subst (λ k. SizeFits s (suc n) k) (sym (width-rectangle (suc n) w f (omega arith))) e)

pub one-line : (x : ℤ) → line_count x x ≡ 1
one-line (pos n) = omega arith
one-line (negsuc n) = omega arith

pub cell-fits : (book : Contents) (s : StaticResult) (at : CellReferenceIndex) → SizeFits s 1 1 → Fits s (value_of book (calc.Range at at))
cell-fits book s at e = rectangle-fits s (line_count at.row at.row) (line_count at.column at.column) (λ i j. book.value (cell_in at i j))
    (size-smaller s (line_count at.row at.row) (line_count at.column at.column) 1 1 (let a = one-line at.row in omega (arith, a)) (let b = one-line at.column in omega (arith, b)) e)

unknown-value : (v : Value) → Fits Unknown v
unknown-value (One e) = tt
unknown-value Missing = tt
unknown-value (Grid rows) = tt

pub unknown-fits : (book : Contents) (answer : Result CalcResult Error) → AnswerFits book Unknown answer
unknown-fits book (Ok made) = unknown-value (value_of book made)
unknown-fits book (Err e) = tt

pub after-fits : {X : Type 0} (book : Contents) (s : StaticResult) (check : Result X Error) (f : X → Result CalcResult Error)
    → ((x : X) → AnswerFits book s (f x)) → AnswerFits book s (after check f)
after-fits book s (Ok x) f h = h x
after-fits book s (Err e) f h = tt
