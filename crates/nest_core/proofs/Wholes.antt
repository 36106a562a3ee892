-- Nests as wholes.
--   sized-nest, some-rows, some-columns   the size that is known is that of the rectangle, and has places
--   inside, below, beside   the element at a place, and none outside
--   whole-nest    the rectangle of a nest is that of its elements
--   counted-nest  how many elements it has
use Rattle.std.proofs.Common.{◌≡◌, ℕ, zero, suc, ◌*◌, ◌<◌, ◌≤◌, true, ◌⊎◌, inl, inr, List, [], ◌∷◌, Some, None, length, get_or, slice_get, option_and_then, refl, sym, ap, ap₂, subst, ◌∙◌, arith}
use Rattle.std.proofs.lemmas.Bool.{cases_lt}
use Rattle.std.proofs.lemmas.Option.{slice_get-get_or}
use Rattle.value_core.specs.declared.array.ArrayNode.{ArrayNode}
use Rattle.value_core.specs.declared.array.ArrayNode.TheVariants.{Empty}
use Rattle.rectangle_core.specs.Rectangle.{rectangle, element_at, or_blank, height, width, IsRectangle}
use Rattle.rectangle_core.proofs.Rectangles.{whole}
use Rattle.book_core.specs.Contents.{Contents, no_contents}
use Rattle.position_core.specs.declared.reshape.Size.{Size}
use Rattle.array_ops.specs.Reshaped.{size_of}
use Rattle.nest_core.specs.Shown.{is_sound, shown, size_in}
use Rattle.nest_core.specs.declared.nest.Nest.{Nest}
use Rattle.nest_core.proofs.Nests.{fits}

pub sized-nest : (nest : Nest) (book : Contents) → is_sound nest ≡ true → size_in nest ≡ size_of (shown book nest)
sized-nest nest book h = sym (fits nest h book).sized

rows-of : (book : Contents) (nest : Nest) → is_sound nest ≡ true → height (shown book nest) ≡ (size_in nest).rows
rows-of book nest h = ap (λ (s : Size). s.rows) (fits nest h book).sized

columns-of : (book : Contents) (nest : Nest) → is_sound nest ≡ true → width (shown book nest) ≡ (size_in nest).columns
columns-of book nest h = ap (λ (s : Size). s.columns) (fits nest h book).sized

pub some-rows : (nest : Nest) → is_sound nest ≡ true → 1 ≤ (size_in nest).rows
some-rows nest h = subst (λ n. 1 ≤ n) (rows-of no_contents nest h) (fits nest h no_contents).whole.some_row

pub some-columns : (nest : Nest) → is_sound nest ≡ true → 1 ≤ (size_in nest).columns
some-columns nest h = subst (λ n. 1 ≤ n) (columns-of no_contents nest h) (fits nest h no_contents).whole.some_column

past : {X : Type 0} (xs : List X) (i : ℕ) → length xs ≤ i → slice_get xs i ≡ None
past [] i h = refl
past (x ∷ xs) zero h = absurd (omega arith)
past (x ∷ xs) (suc i) h = past xs i (omega arith)

in-row : (rows : List (List ArrayNode)) (i j : ℕ) → IsRectangle rows → i < height rows → element_at rows i j ≡ slice_get (get_or rows i []) j
in-row rows i j is h = ap (option_and_then (λ row. slice_get row j)) (slice_get-get_or rows i [] h)

there : (rows : List (List ArrayNode)) (i j : ℕ) → IsRectangle rows → i < height rows → j < width rows → Some (or_blank (element_at rows i j)) ≡ element_at rows i j
there rows i j is h k =
    let row = get_or rows i [] in
    let long : j < length row = omega (arith, k, is.even i [] h) in
    let found : element_at rows i j ≡ Some (get_or row j Empty) = in-row rows i j is h ∙ slice_get-get_or row j Empty long in
    ap (λ o. Some (or_blank o)) found ∙ sym found

right-of : (rows : List (List ArrayNode)) (i j : ℕ) → IsRectangle rows → (i < height rows) ⊎ (height rows ≤ i) → width rows ≤ j → element_at rows i j ≡ None
right-of rows i j is (inl h) k = in-row rows i j is h ∙ past (get_or rows i []) j (omega (arith, k, is.even i [] h))
right-of rows i j is (inr h) k = ap (option_and_then (λ row. slice_get row j)) (past rows i h)

pub inside : (book : Contents) (nest : Nest) (i j : ℕ) (element : ArrayNode) → is_sound nest ≡ true → i < (size_in nest).rows → j < (size_in nest).columns →
    element ≡ or_blank (element_at (shown book nest) i j) → Some element ≡ element_at (shown book nest) i j
inside book nest i j element h k l e =
    ap Some e ∙ there (shown book nest) i j (fits nest h book).whole (omega (arith, k, rows-of book nest h)) (omega (arith, l, columns-of book nest h))

pub below : (book : Contents) (nest : Nest) (i j : ℕ) → is_sound nest ≡ true → (size_in nest).rows ≤ i → None ≡ element_at (shown book nest) i j
below book nest i j h k = sym (ap (option_and_then (λ row. slice_get row j)) (past (shown book nest) i (omega (arith, k, rows-of book nest h))))

pub beside : (book : Contents) (nest : Nest) (i j : ℕ) → is_sound nest ≡ true → (size_in nest).columns ≤ j → None ≡ element_at (shown book nest) i j
beside book nest i j h k = sym (right-of (shown book nest) i j (fits nest h book).whole (cases_lt i (height (shown book nest))) (omega (arith, k, columns-of book nest h)))

pub whole-nest : (book : Contents) (nest : Nest) → is_sound nest ≡ true →
    rectangle (size_in nest).rows (size_in nest).columns (λ i j. or_blank (element_at (shown book nest) i j)) ≡ shown book nest
whole-nest book nest h =
    ap₂ (λ m n. rectangle m n (λ i j. or_blank (element_at (shown book nest) i j))) (sym (rows-of book nest h)) (sym (columns-of book nest h))
    ∙ whole (shown book nest) (fits nest h book).whole

pub counted-nest : (book : Contents) (nest : Nest) → is_sound nest ≡ true → (size_in nest).rows * (size_in nest).columns ≡ height (shown book nest) * width (shown book nest)
counted-nest book nest h = ap₂ (λ m n. m * n) (sym (rows-of book nest h)) (sym (columns-of book nest h))

pub ruleset wholes = (sized-nest, some-rows, some-columns, inside, below, beside, whole-nest, counted-nest)
