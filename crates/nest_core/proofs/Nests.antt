-- Nests by their variants.
--   shown-cells .. known-reshaped   the rectangle of each, and what is known of its size
--   same-size, own-size   two sizes that are one
--   size-rectangle   the size of a rectangle
--   Fits, fits    the rectangle of a sound nest is one, of the size that is known
use Rattle.std.proofs.Common.{◌≡◌, ℕ, ℤ, ◌+◌, ◌*◌, ◌≤◌, Bool, true, List, [], ◌∷◌, map, refl, sym, ap, ap₂, subst, ◌∙◌, arith}
use Rattle.std.proofs.lemmas.Bool.{and_parts, eqb-true, eq-eqb, leb-true, and_from}
use Rattle.value_core.specs.declared.array.ArrayNode.{ArrayNode}
use Rattle.value_core.specs.declared.position.Range.{Range}
use Rattle.rectangle_core.specs.Rectangle.{rectangle, IsRectangle}
use Rattle.rectangle_core.proofs.Rectangles.{height-rectangle, width-rectangle, rectangle-is}
use Rattle.book_core.specs.Contents.{Contents, line_count, cell_in}
use Rattle.position_core.specs.Sized.{size, reshaped}
use Rattle.position_core.specs.Sequence.{sequence_element}
use Rattle.position_core.specs.declared.reshape.Size.{Size}
use Rattle.position_core.specs.declared.reshape.Reshape.{Reshape}
use Rattle.array_ops.specs.Reshaped.{reshaped_element, size_of}
use Rattle.nest_core.specs.Shown.{are_sizes, has_places, is_sound, known, known_layer, rows_layer, same_size, shown, size_in}
use Rattle.nest_core.specs.declared.nest.Nest.{Nest, roll-Nest}
use Rattle.nest_core.specs.declared.nest.Nest.TheOpen.{Nest-F}
use Rattle.nest_core.specs.declared.nest.Nest.TheFolds.{map-Nest, fold-roll-Nest, ind-Nest}
use Rattle.nest_core.specs.declared.nest.Nest.TheVariants.{Cells, Literal, Sequence, Reshaped, rolls-Cells, rolls-Literal, rolls-Sequence, rolls-Reshaped}
use Rattle.nest_core.proofs.Literals.{literal-rectangle}

-- ---- by variants

module _ (book : Contents) where
  pub shown-cells : (range : Range) → shown book (Cells range) ≡ rows_layer book (Nest-F.Cells range)
  shown-cells range = ap (shown book) (sym (rolls-Cells range)) ∙ fold-roll-Nest (List (List ArrayNode)) (rows_layer book) (Nest-F.Cells range)

  pub shown-literal : (rows : List (List ArrayNode)) → shown book (Literal rows) ≡ rows
  shown-literal rows = ap (shown book) (sym (rolls-Literal rows)) ∙ fold-roll-Nest (List (List ArrayNode)) (rows_layer book) (Nest-F.Literal rows)

  pub shown-sequence : (s : Size) (start step : ℤ) → shown book (Sequence s start step) ≡ rows_layer book (Nest-F.Sequence s start step)
  shown-sequence s start step = ap (shown book) (sym (rolls-Sequence s start step)) ∙ fold-roll-Nest (List (List ArrayNode)) (rows_layer book) (Nest-F.Sequence s start step)

  pub shown-reshaped : (reshape : Reshape) (s : Size) (sizes : List Size) (parts : List Nest) (pad : ArrayNode) →
      shown book (Reshaped reshape s sizes parts pad) ≡ rows_layer book (Nest-F.Reshaped reshape s sizes (map (shown book) parts) pad)
  shown-reshaped reshape s sizes parts pad = ap (shown book) (sym (rolls-Reshaped reshape s sizes parts pad)) ∙ fold-roll-Nest (List (List ArrayNode)) (rows_layer book) (Nest-F.Reshaped reshape s sizes parts pad)

pub known-cells : (range : Range) → known (Cells range) ≡ known_layer (Nest-F.Cells range)
known-cells range = ap known (sym (rolls-Cells range)) ∙ fold-roll-Nest (Size × Bool) known_layer (Nest-F.Cells range)

pub known-literal : (rows : List (List ArrayNode)) → known (Literal rows) ≡ known_layer (Nest-F.Literal rows)
known-literal rows = ap known (sym (rolls-Literal rows)) ∙ fold-roll-Nest (Size × Bool) known_layer (Nest-F.Literal rows)

pub known-sequence : (s : Size) (start step : ℤ) → known (Sequence s start step) ≡ known_layer (Nest-F.Sequence s start step)
known-sequence s start step = ap known (sym (rolls-Sequence s start step)) ∙ fold-roll-Nest (Size × Bool) known_layer (Nest-F.Sequence s start step)

pub known-reshaped : (reshape : Reshape) (s : Size) (sizes : List Size) (parts : List Nest) (pad : ArrayNode) →
    known (Reshaped reshape s sizes parts pad) ≡ known_layer (Nest-F.Reshaped reshape s sizes (map known parts) pad)
known-reshaped reshape s sizes parts pad = ap known (sym (rolls-Reshaped reshape s sizes parts pad)) ∙ fold-roll-Nest (Size × Bool) known_layer (Nest-F.Reshaped reshape s sizes parts pad)

pub ruleset nests = (known-cells, known-literal, known-sequence, known-reshaped)

-- ---- sizes

pub same-size : (s t : Size) → same_size s t ≡ true → s ≡ t
same-size s t h = let parts = and_parts _ _ h in ap₂ size (eqb-true s.rows t.rows parts.0) (eqb-true s.columns t.columns parts.1)

pub own-size : (s t : Size) → s ≡ t → same_size s t ≡ true
own-size s t e = and_from _ _ (eq-eqb s.rows t.rows (ap (λ (z : Size). z.rows) e)) (eq-eqb s.columns t.columns (ap (λ (z : Size). z.columns) e))

pub size-rectangle : (rows columns : ℕ) (f : ℕ → ℕ → ArrayNode) → 1 ≤ rows → size_of (rectangle rows columns f) ≡ size rows columns
size-rectangle rows columns f h = ap₂ size (height-rectangle rows columns f) (width-rectangle rows columns f h)

-- ---- what a sound nest knows is so

pub record Fits (book : Contents) (nest : Nest) : Type 0 where
  pub sized : size_of (shown book nest) ≡ size_in nest
  pub whole : IsRectangle (shown book nest)

abbrev Fit : Nest → Type 0
Fit nest = is_sound nest ≡ true → (book : Contents) → Fits book nest

record FitsLayer (rows : List (List ArrayNode)) (s : Size) : Type 0 where
  sized : size_of rows ≡ s
  whole : IsRectangle rows

abbrev the_nest : ((nest : Nest) × Fit nest) → Nest
the_nest e = e.0

abbrev plain : Nest-F ((nest : Nest) × Fit nest) → Nest-F Nest
plain = map-Nest ((nest : Nest) × Fit nest) Nest the_nest

fits-sizes : (book : Contents) (sizes : List Size) (parts : List ((nest : Nest) × Fit nest)) → are_sizes sizes (map known (map the_nest parts)) ≡ true →
    map size_of (map (shown book) (map the_nest parts)) ≡ sizes
fits-sizes book [] [] h = refl
fits-sizes book [] (part ∷ parts) h = cc
fits-sizes book (s ∷ ss) [] h = cc
fits-sizes book (s ∷ ss) (part ∷ parts) h =
    let all = and_parts _ _ h in let here = and_parts _ _ all.0 in
    ap₂ (λ t ts. t ∷ ts) ((part.1 here.1 book).sized ∙ sym (same-size s (size_in part.0) here.0)) (fits-sizes book ss parts all.1)

sized-layer : (rows columns : ℕ) (f : ℕ → ℕ → ArrayNode) → 1 ≤ rows → 1 ≤ columns → FitsLayer (rectangle rows columns f) (size rows columns)
sized-layer rows columns f h k = record { sized = size-rectangle rows columns f h; whole = rectangle-is rows columns f h k }

reshaped-layer : (reshape : Reshape) (arrays : List (List (List ArrayNode))) (pad : ArrayNode) (s : Size) → s ≡ reshaped reshape (map size_of arrays) → has_places s ≡ true →
    FitsLayer (rectangle (reshaped reshape (map size_of arrays)).rows (reshaped reshape (map size_of arrays)).columns (reshaped_element reshape arrays pad)) s
reshaped-layer reshape arrays pad s e h =
    let places = and_parts _ _ h in
    let F : Size → Type 0 = λ z. FitsLayer (rectangle z.rows z.columns (reshaped_element reshape arrays pad)) s in
    subst F e (sized-layer s.rows s.columns (reshaped_element reshape arrays pad) (leb-true _ _ places.0) (leb-true _ _ places.1))

fit-layer : (book : Contents) (y : Nest-F ((nest : Nest) × Fit nest)) → (known_layer (map-Nest Nest (Size × Bool) known (plain y))).1 ≡ true →
    FitsLayer (rows_layer book (map-Nest Nest (List (List ArrayNode)) (shown book) (plain y))) (known_layer (map-Nest Nest (Size × Bool) known (plain y))).0
fit-layer book (Nest-F.Cells range) h =
    sized-layer (line_count range.left.row range.right.row) (line_count range.left.column range.right.column) (λ i j. book.value (cell_in range.left i j)) (omega arith) (omega arith)
fit-layer book (Nest-F.Literal rows) h = record { sized = refl; whole = literal-rectangle rows h }
fit-layer book (Nest-F.Sequence s start step) h =
    let places = and_parts _ _ (and_parts _ _ h).0 in
    sized-layer s.rows s.columns (λ i j. sequence_element (i * s.columns + j) start step) (leb-true _ _ places.0) (leb-true _ _ places.1)
fit-layer book (Nest-F.Reshaped reshape s sizes parts pad) h =
    let all = and_parts _ _ h in let whole = and_parts _ _ all.0 in
    let known_sizes = (and_parts _ _ (and_parts _ _ whole.0).0).0 in
    let same = fits-sizes book sizes parts known_sizes in
    reshaped-layer reshape (map (shown book) (map the_nest parts)) pad s (same-size s (reshaped reshape sizes) whole.1 ∙ ap (reshaped reshape) (sym same)) all.1

fit-roll : (x : Nest-F Nest) (book : Contents) → FitsLayer (rows_layer book (map-Nest Nest (List (List ArrayNode)) (shown book) x)) (known_layer (map-Nest Nest (Size × Bool) known x)).0 → Fits book (roll-Nest x)
fit-roll x book f =
    let rows = fold-roll-Nest (List (List ArrayNode)) (rows_layer book) x in
    let size = fold-roll-Nest (Size × Bool) known_layer x in
    record { sized = ap size_of rows ∙ f.sized ∙ sym (ap (λ (k : Size × Bool). k.0) size); whole = subst IsRectangle (sym rows) f.whole }

pub fits : (nest : Nest) → is_sound nest ≡ true → (book : Contents) → Fits book nest
fits = ind-Nest Fit (λ x y is. λ sound book.
    let L : Nest-F Nest → Type 0 = λ z. (known_layer (map-Nest Nest (Size × Bool) known z)).1 ≡ true →
    FitsLayer (rows_layer book (map-Nest Nest (List (List ArrayNode)) (shown book) z)) (known_layer (map-Nest Nest (Size × Bool) known z)).0 in
    fit-roll x book (subst L is (fit-layer book y) (sym (ap (λ (k : Size × Bool). k.1) (fold-roll-Nest (Size × Bool) known_layer x)) ∙ sound)))
