-- A list cut into rows.
--   height-cut, width-cut   as many rows and columns as were asked for
--   within-cut      a place of the rectangle lies in the list
--   element_at-cut, element_at-below, element_at-right   the element at a place, and outside
--   rectangle-cut   it is a rectangle
--   joined-cut      its elements, one row after another, are the list
--   same-cut, cut-same   two are one exactly where they are cut alike from one list
use Rattle.std.proofs.Common.{◌≡◌, ℕ, zero, suc, ◌+◌, ◌*◌, ◌<◌, ◌≤◌, List, [], ◌∷◌, ◌++◌, length, get_or, take, drop, Some, None, option_and_then, slice_get, refl, sym, ap, ◌∙◌, arith}
use Rattle.std.proofs.lemmas.List.{length-take, length-take-le, length-drop, drop-drop, take-append-drop}
use Rattle.std.proofs.lemmas.Option.{slice_get_past}
use Rattle.std.specs.List.{flat_map}
use Rattle.value_core.specs.declared.array.ArrayNode.{ArrayNode}
use Rattle.rectangle_core.specs.Rectangle.{height, width, element_at, cut, IsRectangle}

pub height-cut : (rows columns : ℕ) (cells : List ArrayNode) → height (cut rows columns cells) ≡ rows
height-cut zero columns cells = refl
height-cut (suc rows) columns cells = ap suc (height-cut rows columns (drop columns cells))

one-row-more : (rows columns : ℕ) → suc rows * columns ≡ columns + rows * columns
one-row-more rows columns = omega arith

pub width-cut : (rows columns : ℕ) (cells : List ArrayNode) → 1 ≤ rows → rows * columns ≡ length cells → width (cut rows columns cells) ≡ columns
width-cut zero columns cells h e = absurd (omega arith)
width-cut (suc rows) columns cells h e = length-take-le columns cells (omega (arith, e, one-row-more rows columns))

pub within-cut : (rows columns i j : ℕ) → i < rows → j < columns → i * columns + j < rows * columns
within-cut zero columns i j h k = absurd (omega arith)
within-cut (suc rows) columns zero j h k = omega (arith, one-row-more rows columns)
within-cut (suc rows) columns (suc i) j h k = omega (arith, one-row-more rows columns, one-row-more i columns, within-cut rows columns i j (omega arith) k)

next-row : (columns i : ℕ) (cells : List ArrayNode) → drop (i * columns) (drop columns cells) ≡ drop (suc i * columns) cells
next-row columns i cells = drop-drop (i * columns) columns cells ∙ ap (λ n. drop n cells) (sym (one-row-more i columns))

first-row : (columns : ℕ) (cells : List ArrayNode) → cells ≡ drop (0 * columns) cells
first-row columns cells = ap (λ n. drop n cells) (let e : 0 ≡ 0 * columns = omega arith in e)

row-cut : (rows columns : ℕ) (cells : List ArrayNode) (i : ℕ) (d : List ArrayNode) → i < rows → get_or (cut rows columns cells) i d ≡ take columns (drop (i * columns) cells)
row-cut zero columns cells i d h = absurd (omega arith)
row-cut (suc rows) columns cells zero d h = ap (take columns) (first-row columns cells)
row-cut (suc rows) columns cells (suc i) d h = row-cut rows columns (drop columns cells) i d (omega arith) ∙ ap (take columns) (next-row columns i cells)

pub some-row-cut : (rows columns : ℕ) (cells : List ArrayNode) (i : ℕ) → i < rows → slice_get (cut rows columns cells) i ≡ Some (take columns (drop (i * columns) cells))
some-row-cut zero columns cells i h = absurd (omega arith)
some-row-cut (suc rows) columns cells zero h = ap (λ xs. Some (take columns xs)) (first-row columns cells)
some-row-cut (suc rows) columns cells (suc i) h = some-row-cut rows columns (drop columns cells) i (omega arith) ∙ ap (λ xs. Some (take columns xs)) (next-row columns i cells)

pub no-row-cut : (rows columns : ℕ) (cells : List ArrayNode) (i : ℕ) → rows ≤ i → None ≡ slice_get (cut rows columns cells) i
no-row-cut zero columns cells i h = refl
no-row-cut (suc rows) columns cells zero h = absurd (omega (arith, h))
no-row-cut (suc rows) columns cells (suc i) h = no-row-cut rows columns (drop columns cells) i (omega (arith, h))

slice_get-take : {X : Type 0} (n : ℕ) (xs : List X) (j : ℕ) → j < n → slice_get (take n xs) j ≡ slice_get xs j
slice_get-take zero xs j h = absurd (omega arith)
slice_get-take (suc n) [] j h = refl
slice_get-take (suc n) (x ∷ xs) zero h = refl
slice_get-take (suc n) (x ∷ xs) (suc j) h = slice_get-take n xs j (omega arith)

slice_get-drop : {X : Type 0} (k : ℕ) (xs : List X) (j : ℕ) → slice_get (drop k xs) j ≡ slice_get xs (k + j)
slice_get-drop zero xs j = ap (slice_get xs) (let e : j ≡ 0 + j = omega arith in e)
slice_get-drop (suc k) [] j = refl
slice_get-drop (suc k) (x ∷ xs) j = slice_get-drop k xs j ∙ ap (slice_get (x ∷ xs)) (let e : suc (k + j) ≡ suc k + j = omega arith in e)

pub element_at-cut : (rows columns : ℕ) (cells : List ArrayNode) (i j : ℕ) → i < rows → j < columns → element_at (cut rows columns cells) i j ≡ slice_get cells (i * columns + j)
element_at-cut rows columns cells i j h k =
    ap (option_and_then (λ row. slice_get row j)) (some-row-cut rows columns cells i h)
    ∙ slice_get-take columns (drop (i * columns) cells) j k ∙ slice_get-drop (i * columns) cells j

pub element_at-below : (rows columns : ℕ) (cells : List ArrayNode) (i j : ℕ) → rows ≤ i → element_at (cut rows columns cells) i j ≡ None
element_at-below rows columns cells i j h = ap (option_and_then (λ row. slice_get row j)) (slice_get_past (cut rows columns cells) i (omega (arith, height-cut rows columns cells)))

pub element_at-right : (rows columns : ℕ) (cells : List ArrayNode) (i j : ℕ) → i < rows → columns ≤ j → element_at (cut rows columns cells) i j ≡ None
element_at-right rows columns cells i j h k =
    ap (option_and_then (λ row. slice_get row j)) (some-row-cut rows columns cells i h)
    ∙ slice_get_past (take columns (drop (i * columns) cells)) j (omega (arith, length-take columns (drop (i * columns) cells)))

row-fits : (rows columns i : ℕ) (cells : List ArrayNode) → i < rows → rows * columns ≡ length cells → columns ≤ length (drop (i * columns) cells)
row-fits zero columns i cells h e = absurd (omega arith)
row-fits (suc rows) columns zero cells h e = omega (arith, e, one-row-more rows columns, length-drop (0 * columns) cells)
row-fits (suc rows) columns (suc i) cells h e =
    omega (arith, ap length (next-row columns i cells), row-fits rows columns i (drop columns cells) (omega arith) (omega (arith, e, one-row-more rows columns, length-drop columns cells)))

pub rectangle-cut : (rows columns : ℕ) (cells : List ArrayNode) → 1 ≤ rows → 1 ≤ columns → rows * columns ≡ length cells → IsRectangle (cut rows columns cells)
rectangle-cut rows columns cells h k e = record {
  some_row = omega (arith, height-cut rows columns cells);
  some_column = omega (arith, width-cut rows columns cells h e);
  even = λ i d below. let in_rows : i < rows = omega (arith, height-cut rows columns cells) in
      ap length (row-cut rows columns cells i d in_rows)
      ∙ length-take-le columns (drop (i * columns) cells) (row-fits rows columns i cells in_rows e)
      ∙ sym (width-cut rows columns cells h e);
}

pub joined-cut : (rows columns : ℕ) (cells : List ArrayNode) → rows * columns ≡ length cells → flat_map (λ row. row) (cut rows columns cells) ≡ cells
joined-cut zero columns [] e = refl
joined-cut zero columns (cell ∷ cells) e = absurd (omega (arith, e))
joined-cut (suc rows) columns cells e =
    ap (λ rest. take columns cells ++ rest) (joined-cut rows columns (drop columns cells) (omega (arith, e, one-row-more rows columns, length-drop columns cells)))
    ∙ take-append-drop columns cells

pub same-cut : (r c s d : ℕ) (xs ys : List ArrayNode) → 1 ≤ r → r * c ≡ length xs → 1 ≤ s → s * d ≡ length ys → cut r c xs ≡ cut s d ys → (r ≡ s) × (c ≡ d) × (xs ≡ ys)
same-cut r c s d xs ys h e k f p = (
  sym (height-cut r c xs) ∙ ap height p ∙ height-cut s d ys,
  sym (width-cut r c xs h e) ∙ ap width p ∙ width-cut s d ys k f,
  sym (joined-cut r c xs e) ∙ ap (flat_map (λ row. row)) p ∙ joined-cut s d ys f,
)

pub cut-same : (r c s d : ℕ) (xs ys : List ArrayNode) → r ≡ s → c ≡ d → xs ≡ ys → cut r c xs ≡ cut s d ys
cut-same r c s d xs ys p q e = ap (λ n. cut n c xs) p ∙ ap (λ n. cut s n xs) q ∙ ap (cut s d) e

pub ruleset cuts = (height-cut, width-cut, within-cut, element_at-cut, element_at-below, element_at-right, rectangle-cut)
