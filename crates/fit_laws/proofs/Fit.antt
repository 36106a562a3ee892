-- Values of operators, of cells and of `@`s fit their shapes.
--   rectangle_fits    a rectangle of a size that fits
--   side_fits         a value as the side of an operator
--   broadcast_fits, unary_fits   what operators give
--   single_fits, of_value_fits, unknown_fits   one value, a table's value, any value of unknown shape
--   intersection_fits   what an `@` gives fits every shape
use Rattle.std.proofs.Common.{◌≡◌, ℕ, zero, suc, arith, List, [], ◌∷◌, map, Option, Some, None, refl, sym, subst}
use Rattle.std.proofs.lemmas.Int.{ints}
use Rattle.std.proofs.lemmas.List.{length-map}
use Rattle.value_core.specs.declared.array.ArrayNode.{ArrayNode}
use Rattle.value_core.specs.declared.array.ArrayNode.TheVariants as item
use Rattle.value_core.specs.declared.array.ArrayNode.TheVariants.{Empty}
use Rattle.value_core.specs.declared.error.Error.{Error}
use Rattle.value_core.specs.declared.operator.Operator.{Operator}
use Rattle.value_core.specs.declared.position.CellReferenceIndex.{CellReferenceIndex}
use Rattle.rectangle_core.specs.Rectangle.{rectangle, height, width}
use Rattle.rectangle_core.proofs.Rectangles.{height-rectangle, width-rectangle}
use Rattle.rectangle_core.specs.declared.value.Value.{Value}
use Rattle.rectangle_core.specs.declared.value.Value.TheVariants.{One, Missing, Grid}
use Rattle.operand_core.specs.Each.{each_of}
use Rattle.operand_core.specs.Side.{side}
use Rattle.book_core.specs.Contents.{Contents}
use Rattle.book_core.specs.Meeting.{meets}
use Rattle.grid_core.specs.Broadcast.{broadcast, over_sides, unless_wrong, whole_error}
use Rattle.grid_core.specs.declared.calc_result.CalcResult.{CalcResult}
use Rattle.grid_core.specs.declared.calc_result.CalcResult.TheVariants as calc
use Rattle.kind_table.specs.declared.static_result.StaticResult.{StaticResult}
use Rattle.kind_table.specs.declared.static_result.StaticResult.TheVariants.{Scalar, Array, Range, Unknown}
use Rattle.kind_table.specs.Fit.{SizeFits, Fits}
use Rattle.kind_table.specs.FitLaws.{combined_fits, one_fits}
use Rattle.kind_table.specs.Shape.{combined, IsWellFormed}
use Rattle.result_core.specs.Finding.{result_of, value_of, of_value, value_found}
use Rattle.result_core.specs.Intersection.{intersection_found, met}

-- ---- sizes

zero_fits : (s : StaticResult) (columns : ℕ) → SizeFits s 0 columns → SizeFits s 0 0
zero_fits Scalar columns e = (omega arith, omega arith)
zero_fits (Array a b) columns e = (e.0, omega (arith, ints))
zero_fits (Range a b) columns e = (e.0, omega (arith, ints))
zero_fits Unknown columns e = tt

pub rectangle_fits : (s : StaticResult) (rows columns : ℕ) (f : ℕ → ℕ → ArrayNode) → SizeFits s rows columns → SizeFits s (height (rectangle rows columns f)) (width (rectangle rows columns f))
rectangle_fits s zero columns f e = zero_fits s columns e
rectangle_fits s (suc n) columns f e = subst (λ h. SizeFits s h (width (rectangle (suc n) columns f))) (sym (height-rectangle (suc n) columns f))
    (subst (λ w. SizeFits s (suc n) w) (sym (width-rectangle (suc n) columns f (omega arith))) e)

-- ---- operators

pub side_fits : (s : StaticResult) (v : Value) → IsWellFormed s → Fits s v → SizeFits s (height (side Empty v)) (width (side Empty v))
side_fits s (One e) h k = one_fits s h
side_fits s Missing h k = one_fits s h
side_fits s (Grid rows) h k = k

over_sides_fit : (operator : Operator) (s t : StaticResult) (v w : Value) → IsWellFormed s → IsWellFormed t → Fits s v → Fits t w → Fits (combined s t) (over_sides operator v w)
over_sides_fit operator s t (One x) (One y) p q e f = tt
over_sides_fit operator s t (One x) Missing p q e f = tt
over_sides_fit operator s t Missing (One y) p q e f = tt
over_sides_fit operator s t Missing Missing p q e f = tt
over_sides_fit operator s t (One x) (Grid r) p q e f = rectangle_fits _ _ _ _ (combined_fits s t 1 1 (height r) (width r) p q (one_fits s p) f)
over_sides_fit operator s t Missing (Grid r) p q e f = rectangle_fits _ _ _ _ (combined_fits s t 1 1 (height r) (width r) p q (one_fits s p) f)
over_sides_fit operator s t (Grid l) (One y) p q e f = rectangle_fits _ _ _ _ (combined_fits s t (height l) (width l) 1 1 p q e (one_fits t q))
over_sides_fit operator s t (Grid l) Missing p q e f = rectangle_fits _ _ _ _ (combined_fits s t (height l) (width l) 1 1 p q e (one_fits t q))
over_sides_fit operator s t (Grid l) (Grid r) p q e f = rectangle_fits _ _ _ _ (combined_fits s t (height l) (width l) (height r) (width r) p q e f)

unless_wrong_fits : (s : StaticResult) (e : Option Error) (v : Value) → Fits s v → Fits s (unless_wrong e v)
unless_wrong_fits s (Some e) v h = tt
unless_wrong_fits s None v h = h

pub broadcast_fits : (operator : Operator) (s t : StaticResult) (v w : Value) → IsWellFormed s → IsWellFormed t → Fits s v → Fits t w → Fits (combined s t) (broadcast operator v w)
broadcast_fits operator s t v w p q e f = unless_wrong_fits (combined s t) (whole_error v) _ (unless_wrong_fits (combined s t) (whole_error w) _ (over_sides_fit operator s t v w p q e f))

-- an operator over one operand keeps the rows and the columns
width-map : (rule : ArrayNode → ArrayNode) (rows : List (List ArrayNode)) → width (map (λ row. map rule row) rows) ≡ width rows
width-map rule [] = refl
width-map rule (row ∷ rows) = length-map row rule

pub unary_fits : (rule : ArrayNode → ArrayNode) (s : StaticResult) (v : Value) → Fits s v → Fits s (each_of rule v)
unary_fits rule s (One e) h = tt
unary_fits rule s Missing h = tt
unary_fits rule s (Grid rows) h =
    subst (λ k. SizeFits s k (width (map (λ row. map rule row) rows))) (sym (length-map rows (λ row. map rule row)))
    (subst (λ k. SizeFits s (height rows) k) (sym (width-map rule rows)) h)

-- ---- single values

module _ (book : Contents) (cell : CellReferenceIndex) where
  pub single_fits : (s : StaticResult) (e : ArrayNode) → Fits s (value_of book (result_of cell e))
  single_fits s (item.Number n) = tt
  single_fits s (item.Boolean b) = tt
  single_fits s (item.String text) = tt
  single_fits s (item.Error e) = tt
  single_fits s item.Empty = tt

  pub of_value_fits : (s : StaticResult) (v : Value) → Fits s v → Fits s (value_of book (of_value cell v))
  of_value_fits s (One e) h = single_fits s e
  of_value_fits s Missing h = tt
  of_value_fits s (Grid rows) h = h

  pub unknown_fits : (v : Value) → Fits Unknown v
  unknown_fits (One e) = tt
  unknown_fits Missing = tt
  unknown_fits (Grid rows) = tt

  met_fits : (s : StaticResult) (at : Option CellReferenceIndex) → Fits s (value_found book cell (met cell at))
  met_fits s (Some at) = single_fits s (book.value at)
  met_fits s None = tt

  pub intersection_fits : (s : StaticResult) (r : CalcResult) → Fits s (value_found book cell (intersection_found cell r))
  intersection_fits s (calc.Number n) = tt
  intersection_fits s (calc.Boolean b) = tt
  intersection_fits s (calc.String text) = tt
  intersection_fits s (calc.Error e origin) = tt
  intersection_fits s (calc.Range left right) = met_fits s (meets cell left right)
  intersection_fits s (calc.Array rows) = single_fits s _
  intersection_fits s calc.EmptyCell = tt
  intersection_fits s calc.EmptyArg = tt
