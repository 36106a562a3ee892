-- A rule over each element of a rectangle.
--   rectangle-map   the rectangle of what a rule makes of each element
use Rattle.std.proofs.Common.{◌≡◌, ℕ, List, [], ◌∷◌, map, refl, sym, ap, ap₂, ◌∙◌}
use Rattle.std.proofs.lemmas.Simd.{map-map}
use Rattle.std.specs.List.{range_with_len}
use Rattle.value_core.specs.declared.array.ArrayNode.{ArrayNode}
use Rattle.rectangle_core.specs.Rectangle.{tabulate, rectangle, height, width, element_at, or_blank, IsRectangle}
use Rattle.rectangle_core.proofs.Rectangles.{whole}

rows-map : (f : ArrayNode → ArrayNode) (g : ℕ → ℕ → ArrayNode) (columns : ℕ) (is : List ℕ) →
    map (λ i. tabulate columns (λ j. f (g i j))) is ≡ map (λ row. map f row) (map (λ i. tabulate columns (g i)) is)
rows-map f g columns [] = refl
rows-map f g columns (i ∷ is) = ap₂ (λ row rows. row ∷ rows) (sym (map-map f (g i) (range_with_len 0 columns))) (rows-map f g columns is)

pub rectangle-map : (f : ArrayNode → ArrayNode) (rows : List (List ArrayNode)) → IsRectangle rows →
    rectangle (height rows) (width rows) (λ i j. f (or_blank (element_at rows i j))) ≡ map (λ row. map f row) rows
rectangle-map f rows is = rows-map f (λ i j. or_blank (element_at rows i j)) (width rows) (range_with_len 0 (height rows)) ∙ ap (map (λ row. map f row)) (whole rows is)
