-- Rectangles by their size and elements.
--   height-rectangle, width-rectangle   as many rows and columns as were asked for
--   rectangle-is   it is a rectangle
--   whole          a rectangle is that of its own elements
use Rattle.std.proofs.Common.{◌≡◌, ℕ, zero, suc, ◌≤◌, List, [], length, get_or, option_and_then, slice_get, refl, sym, ap, ◌∙◌, arith}
use Rattle.std.proofs.lemmas.List.FromFn.{length-map-range_with_len, get_or-map-range_with_len, fill_by_all}
use Rattle.std.proofs.lemmas.Option.{slice_get-get_or}
use Rattle.value_core.specs.declared.array.ArrayNode.{ArrayNode}
use Rattle.value_core.specs.declared.array.ArrayNode.TheVariants.{Empty}
use Rattle.rectangle_core.specs.Rectangle.{tabulate, rectangle, height, width, element_at, or_blank, IsRectangle}

pub height-rectangle : (rows columns : ℕ) (f : ℕ → ℕ → ArrayNode) → height (rectangle rows columns f) ≡ rows
height-rectangle rows columns f = length-map-range_with_len (λ i. tabulate columns (f i)) 0 rows

pub width-rectangle : (rows columns : ℕ) (f : ℕ → ℕ → ArrayNode) → 1 ≤ rows → width (rectangle rows columns f) ≡ columns
width-rectangle zero columns f h = absurd (omega arith)
width-rectangle (suc rows) columns f h = length-map-range_with_len (f 0) 0 columns

pub rectangle-is : (rows columns : ℕ) (f : ℕ → ℕ → ArrayNode) → 1 ≤ rows → 1 ≤ columns → IsRectangle (rectangle rows columns f)
rectangle-is rows columns f h k = record {
  some_row = omega (arith, height-rectangle rows columns f);
  some_column = omega (arith, width-rectangle rows columns f h);
  even = λ i d below. ap length (get_or-map-range_with_len (λ j. tabulate columns (f j)) 0 rows i i d (omega (arith, height-rectangle rows columns f)) (omega arith))
      ∙ length-map-range_with_len (f i) 0 columns ∙ sym (width-rectangle rows columns f h);
}

whole-row : (row : List ArrayNode) (n : ℕ) (d : ArrayNode) → length row ≡ n → row ≡ tabulate n (λ j. or_blank (slice_get row j))
whole-row row n d e = fill_by_all (λ j. or_blank (slice_get row j)) row n d e (λ k h. sym (ap or_blank (slice_get-get_or row k d (omega arith))))

pub whole : (rows : List (List ArrayNode)) → IsRectangle rows → rectangle (height rows) (width rows) (λ i j. or_blank (element_at rows i j)) ≡ rows
whole rows is = sym (fill_by_all (λ i. tabulate (width rows) (λ j. or_blank (element_at rows i j))) rows (height rows) [] refl
    (λ k h. whole-row (get_or rows k []) (width rows) Empty (is.even k [] h)
    ∙ ap (λ row. tabulate (width rows) (λ j. or_blank (option_and_then (λ r. slice_get r j) row))) (sym (slice_get-get_or rows k [] h))))
