-- Rectangles of elements, as lists of rows.
--   tabulate     a list by its length and the element at each place, from 0
--   rectangle    a rectangle by its numbers of rows and columns and the element at each place
--   height       the number of rows
--   width        the number of columns
--   element_at   the element at a place; none outside
--   or_blank     an element, or a blank where there is none
--   one_by_one   one element as a rectangle
--   IsRectangle  at least one row and one column, and rows of one length
--   IsMadeOf     some rows as a rectangle, where they are one
--   cut          so many rows of so many elements, cut one after another from a list
--   laid         the elements of a rectangle, one row after another
use Rattle.std.specs.Prelude.{◌≡◌, ℕ, zero, suc, ◌≤◌, List, [], ◌∷◌, map, take, drop, length, Option, Some, None, option_and_then, slice_get, All}
use Rattle.std.specs.List.{flat_map, range_with_len}
use Rattle.value_core.specs.declared.array.ArrayNode.{ArrayNode}
use Rattle.value_core.specs.declared.array.ArrayNode.TheVariants.{Empty}

abbrev pub tabulate : {X : Type 0} → ℕ → (ℕ → X) → List X
tabulate count f = map f (range_with_len 0 count)

abbrev pub rectangle : ℕ → ℕ → (ℕ → ℕ → ArrayNode) → List (List ArrayNode)
rectangle rows columns f = tabulate rows (λ i. tabulate columns (f i))

abbrev pub height : List (List ArrayNode) → ℕ
height rows = length rows

abbrev pub width : List (List ArrayNode) → ℕ
width [] = 0
width (row ∷ rows) = length row

abbrev pub element_at : List (List ArrayNode) → ℕ → ℕ → Option ArrayNode
element_at rows i j = option_and_then (λ row. slice_get row j) (slice_get rows i)

abbrev pub or_blank : Option ArrayNode → ArrayNode
or_blank (Some element) = element
or_blank None = Empty

abbrev pub one_by_one : ArrayNode → List (List ArrayNode)
one_by_one element = (element ∷ []) ∷ []

pub record IsRectangle (rows : List (List ArrayNode)) : Type 0 where
  pub some_row : 1 ≤ height rows
  pub some_column : 1 ≤ width rows
  pub even : All (λ row. length row ≡ width rows) rows

abbrev pub IsMadeOf : List (List ArrayNode) → Option (List (List ArrayNode)) → Type 0
IsMadeOf rows (Some grid) = (grid ≡ rows) × IsRectangle rows
IsMadeOf rows None = ¬ IsRectangle rows

abbrev pub cut : ℕ → ℕ → List ArrayNode → List (List ArrayNode)
cut zero columns cells = []
cut (suc rows) columns cells = take columns cells ∷ cut rows columns (drop columns cells)

abbrev pub laid : ℕ → ℕ → (ℕ → ℕ → ArrayNode) → List ArrayNode
laid rows columns f = flat_map (λ i. tabulate columns (f i)) (range_with_len 0 rows)
