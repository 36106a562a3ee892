-- The element of a nest at a place, by variants.
--   at-rectangle     of a rectangle
--   cells-element, sequence-element, moved-element   of a range, of a sequence, of what is moved
--   part-within, part-sound, part-falls              the part that a position names
use Rattle.std.proofs.Common.{◌≡◌, ℕ, zero, suc, ℤ, ap₂, Option, ◌+◌, ◌*◌, ◌<◌, ◌≤◌, Bool, true, List, [], ◌∷◌, Some, None, length, map, get_or, slice_get, option_and_then, refl, sym, ap, subst, ◌∙◌, arith, rules}
use Rattle.std.specs.Option.{is_none}
use Rattle.std.proofs.lemmas.Bool.{and_parts, leb-true}
use Rattle.std.proofs.lemmas.List.FromFn.{length-map-range_with_len, get_or-map-range_with_len}
use Rattle.std.proofs.lemmas.Option.{slice_get-get_or}
use denote.Param.Weighed.{most}
use Rattle.value_core.specs.declared.array.ArrayNode.{ArrayNode}
use Rattle.value_core.specs.declared.array.ArrayNode.TheVariants.{Empty}
use Rattle.value_core.specs.declared.position.Range.{Range}
use Rattle.rectangle_core.specs.Rectangle.{tabulate, rectangle, element_at, or_blank}
use Rattle.book_core.specs.Contents.{Contents, cell_in}
use Rattle.position_core.specs.Sized.{size, reshaped}
use Rattle.position_core.specs.Check.{refused}
use Rattle.position_core.specs.Place.{IsPlace}
use Rattle.position_core.specs.Position.{position, IsWithin}
use Rattle.position_core.specs.Sequence.{sequence_element}
use Rattle.position_core.specs.declared.position.Position.TheVariants.{Part}
use Rattle.position_core.specs.declared.reshape.Size.{Size}
use Rattle.position_core.specs.declared.reshape.Reshape.{Reshape}
use Rattle.array_ops.specs.Reshaped.{picked, reshaped_element, size_of}
use Rattle.nest_core.specs.Shown.{are_sizes, is_sound, known, known_layer, shown, size_in}
use Rattle.nest_core.specs.declared.nest.Nest.{Nest, size-Nest, the_lemmas}
use Rattle.nest_core.specs.declared.nest.Nest.TheOpen.{Nest-F}
use Rattle.nest_core.specs.declared.nest.Nest.TheVariants.{Cells, Sequence, Reshaped}
use Rattle.nest_core.proofs.Nests.{fits, known-cells, known-reshaped, known-sequence, same-size, shown-cells, shown-reshaped, shown-sequence}

slice_get-tabulate : {X : Type 0} (n : ℕ) (f : ℕ → X) (i : ℕ) (d : X) → i < n → slice_get (tabulate n f) i ≡ Some (f i)
slice_get-tabulate n f i d h =
    slice_get-get_or (tabulate n f) i d (omega (arith, length-map-range_with_len f 0 n))
    ∙ ap Some (get_or-map-range_with_len f 0 n i i d h (omega arith))

pub at-rectangle : (rows columns : ℕ) (f : ℕ → ℕ → ArrayNode) (i j : ℕ) → i < rows → j < columns → or_blank (element_at (rectangle rows columns f) i j) ≡ f i j
at-rectangle rows columns f i j h k =
    ap (λ row. or_blank (option_and_then (λ r. slice_get r j) row)) (slice_get-tabulate rows (λ i. tabulate columns (f i)) i [] h)
    ∙ ap or_blank (slice_get-tabulate columns (f i) j Empty k)

-- ---- a range, a sequence

known-size : (nest : Nest) (k : Size × Bool) → known nest ≡ k → size_in nest ≡ k.0
known-size nest k e = ap (λ (z : Size × Bool). z.0) e

known-sound : (nest : Nest) (k : Size × Bool) → known nest ≡ k → is_sound nest ≡ true → k.1 ≡ true
known-sound nest k e h = sym (ap (λ (z : Size × Bool). z.1) e) ∙ h

row-within : (s t : Size) (i : ℕ) → s ≡ t → i < s.rows → i < t.rows
row-within s t i e h = let F : Size → Type 0 = λ z. i < z.rows in subst F e h

column-within : (s t : Size) (j : ℕ) → s ≡ t → j < s.columns → j < t.columns
column-within s t j e h = let F : Size → Type 0 = λ z. j < z.columns in subst F e h

cells-known : (nest : Nest) (range : Range) → nest ≡ Cells range → known nest ≡ known_layer (Nest-F.Cells range)
cells-known nest range e = ap known e ∙ known-cells range

pub cells-row : (nest : Nest) (range : Range) (i : ℕ) → nest ≡ Cells range → i < (size_in nest).rows → i < (known_layer (Nest-F.Cells range)).0.rows
cells-row nest range i e h = row-within _ _ i (known-size nest _ (cells-known nest range e)) h

pub cells-column : (nest : Nest) (range : Range) (j : ℕ) → nest ≡ Cells range → j < (size_in nest).columns → j < (known_layer (Nest-F.Cells range)).0.columns
cells-column nest range j e h = column-within _ _ j (known-size nest _ (cells-known nest range e)) h

pub cells-element : (book : Contents) (nest : Nest) (range : Range) (i j : ℕ) → nest ≡ Cells range → i < (size_in nest).rows → j < (size_in nest).columns →
    book.value (cell_in range.left i j) ≡ or_blank (element_at (shown book nest) i j)
cells-element book nest range i j e h k =
    sym (ap (λ rows. or_blank (element_at rows i j)) (ap (shown book) e ∙ shown-cells book range)
    ∙ at-rectangle _ _ (λ i j. book.value (cell_in range.left i j)) i j (cells-row nest range i e h) (cells-column nest range j e k))

sequence-known : (nest : Nest) (s : Size) (start step : ℤ) → nest ≡ Sequence s start step → known nest ≡ known_layer (Nest-F.Sequence s start step)
sequence-known nest s start step e = ap known e ∙ known-sequence s start step

pub record IsSheet (s : Size) : Type 0 where
  pub rows : s.rows ≤ 1048576
  pub columns : s.columns ≤ 16384

pub sequence-sheet : (nest : Nest) (s : Size) (start step : ℤ) → nest ≡ Sequence s start step → is_sound nest ≡ true → IsSheet s
sequence-sheet nest s start step e h =
    let all = and_parts _ _ (known-sound nest _ (sequence-known nest s start step e) h) in
    let most = and_parts _ _ all.1 in
    record { rows = leb-true _ _ most.0; columns = leb-true _ _ most.1 }

pub sequence-row : (nest : Nest) (s : Size) (start step : ℤ) (i : ℕ) → nest ≡ Sequence s start step → i < (size_in nest).rows → i < s.rows
sequence-row nest s start step i e h = row-within _ _ i (known-size nest _ (sequence-known nest s start step e)) h

pub sequence-column : (nest : Nest) (s : Size) (start step : ℤ) (j : ℕ) → nest ≡ Sequence s start step → j < (size_in nest).columns → j < s.columns
sequence-column nest s start step j e h = column-within _ _ j (known-size nest _ (sequence-known nest s start step e)) h

pub sequence-element : (book : Contents) (nest : Nest) (s : Size) (start step : ℤ) (i j : ℕ) → nest ≡ Sequence s start step → i < (size_in nest).rows → j < (size_in nest).columns →
    sequence_element (i * s.columns + j) start step ≡ or_blank (element_at (shown book nest) i j)
sequence-element book nest s start step i j e h k =
    sym (ap (λ rows. or_blank (element_at rows i j)) (ap (shown book) e ∙ shown-sequence book s start step)
    ∙ at-rectangle _ _ (λ i j. sequence_element (i * s.columns + j) start step) i j (sequence-row nest s start step i e h) (sequence-column nest s start step j e k))

-- ---- what is moved

pub record Moved (nest : Nest) (reshape : Reshape) (s : Size) (sizes : List Size) (parts : List Nest) : Type 0 where
  pub sizes_known : are_sizes sizes (map known parts) ≡ true
  pub some : 0 < length sizes
  pub passed : refused reshape sizes 16777216 ≡ None
  pub whole : s ≡ reshaped reshape sizes
  pub size_is : size_in nest ≡ s

none-is : {X : Type 0} (o : Option X) → is_none o ≡ true → o ≡ None
none-is None h = refl
none-is (Some x) h = cc

pub moved : (nest : Nest) (reshape : Reshape) (s : Size) (sizes : List Size) (parts : List Nest) (pad : ArrayNode) → nest ≡ Reshaped reshape s sizes parts pad → is_sound nest ≡ true →
    Moved nest reshape s sizes parts
moved nest reshape s sizes parts pad e h =
    let is = ap known e ∙ known-reshaped reshape s sizes parts pad in
    let all = and_parts _ _ (known-sound nest _ is h) in let whole = and_parts _ _ all.0 in
    let passed = and_parts _ _ whole.0 in let some = and_parts _ _ passed.0 in
    record {
      sizes_known = some.0;
      some = leb-true 1 (length sizes) some.1;
      passed = none-is (refused reshape sizes 16777216) passed.1;
      whole = same-size s (reshaped reshape sizes) whole.1;
      size_is = known-size nest _ is;
    }

pub moved-place : (nest : Nest) (reshape : Reshape) (s : Size) (sizes : List Size) (parts : List Nest) (pad : ArrayNode) (i j : ℕ) → nest ≡ Reshaped reshape s sizes parts pad → is_sound nest ≡ true →
    i < (size_in nest).rows → j < (size_in nest).columns → IsPlace reshape sizes i j
moved-place nest reshape s sizes parts pad i j e h k l =
    let m = moved nest reshape s sizes parts pad e h in
    record {
      some = m.some;
      fits = m.passed;
      row_within = row-within _ _ i (m.size_is ∙ m.whole) k;
      column_within = column-within _ _ j (m.size_is ∙ m.whole) l;
    }

pub shown-sizes : (book : Contents) (sizes : List Size) (parts : List Nest) → are_sizes sizes (map known parts) ≡ true → map size_of (map (shown book) parts) ≡ sizes
shown-sizes book [] [] h = refl
shown-sizes book [] (part ∷ parts) h = cc
shown-sizes book (s ∷ ss) [] h = cc
shown-sizes book (s ∷ ss) (part ∷ parts) h =
    let all = and_parts _ _ h in let here = and_parts _ _ all.0 in
    ap₂ (λ t ts. t ∷ ts) ((fits part here.1 book).sized ∙ sym (same-size s (size_in part) here.0)) (shown-sizes book ss parts all.1)

pub moved-element : (book : Contents) (nest : Nest) (reshape : Reshape) (s : Size) (sizes : List Size) (parts : List Nest) (pad : ArrayNode) (i j : ℕ) → nest ≡ Reshaped reshape s sizes parts pad → is_sound nest ≡ true →
    i < (size_in nest).rows → j < (size_in nest).columns → picked (map (shown book) parts) pad (position reshape sizes i j) ≡ or_blank (element_at (shown book nest) i j)
moved-element book nest reshape s sizes parts pad i j e h k l =
    let m = moved nest reshape s sizes parts pad e h in
    let place = moved-place nest reshape s sizes parts pad i j e h k l in
    let same = shown-sizes book sizes parts m.sizes_known in
    sym (ap (λ rows. or_blank (element_at rows i j)) (ap (shown book) e ∙ shown-reshaped book reshape s sizes parts pad)
    ∙ at-rectangle _ _ (reshaped_element reshape (map (shown book) parts) pad) i j
    (row-within _ _ i (ap (reshaped reshape) (sym same)) place.row_within) (column-within _ _ j (ap (reshaped reshape) (sym same)) place.column_within)
    ∙ ap (λ ss. picked (map (shown book) parts) pad (position reshape ss i j)) same)

-- ---- the part that a position names

pub record PartIs (sizes : List Size) (parts : List Nest) (index : ℕ) (part : Nest) : Type 0 where
  pub sound : is_sound part ≡ true
  pub sized : size_in part ≡ get_or sizes index (size 0 0)

pub part-there : (sizes : List Size) (parts : List Nest) (index : ℕ) → are_sizes sizes (map known parts) ≡ true → index < length sizes → index < length parts
part-there [] parts index h l = absurd (omega arith)
part-there (s ∷ ss) [] index h l = cc
part-there (s ∷ ss) (p ∷ ps) zero h l = omega arith
part-there (s ∷ ss) (p ∷ ps) (suc index) h l = let rest = part-there ss ps index (and_parts _ _ h).1 (omega arith) in omega (arith, rest)

pub part-is : (sizes : List Size) (parts : List Nest) (index : ℕ) (part : Nest) → are_sizes sizes (map known parts) ≡ true → index < length sizes → Some part ≡ slice_get parts index → PartIs sizes parts index part
part-is [] parts index part h l e = absurd (omega arith)
part-is (s ∷ ss) [] index part h l e = cc
part-is (s ∷ ss) (p ∷ ps) zero part h l e =
    let here = and_parts _ _ (and_parts _ _ h).0 in
    let same : part ≡ p = cc in
    record { sound = ap is_sound same ∙ here.1; sized = ap size_in same ∙ sym (same-size s (size_in p) here.0) }
part-is (s ∷ ss) (p ∷ ps) (suc index) part h l e =
    let rest = part-is ss ps index part (and_parts _ _ h).1 (omega arith) e in
    record { sound = rest.sound; sized = rest.sized }

pub record Draws (part : Nest) (row column : ℕ) : Type 0 where
  pub sound : is_sound part ≡ true
  pub row_within : row < (size_in part).rows
  pub column_within : column < (size_in part).columns

pub drawn-part : (sizes : List Size) (parts : List Nest) (index row column : ℕ) (part : Nest) → are_sizes sizes (map known parts) ≡ true → Some part ≡ slice_get parts index →
    IsWithin (Part index row column) sizes → Draws part row column
drawn-part sizes parts index row column part h e w =
    let p = part-is sizes parts index part h w.0 e in
    record { sound = p.sound; row_within = row-within _ _ row (sym p.sized) w.1; column_within = column-within _ _ column (sym p.sized) w.2 }

get-map : {X Y : Type 0} (f : X → Y) (xs : List X) (i : ℕ) (x : X) → Some x ≡ slice_get xs i → slice_get (map f xs) i ≡ Some (f x)
get-map f [] i x e = cc
get-map f (y ∷ xs) zero x e = let same : x ≡ y = cc in ap (λ z. Some (f z)) (sym same)
get-map f (y ∷ xs) (suc i) x e = get-map f xs i x e

pub drawn-element : (book : Contents) (parts : List Nest) (pad : ArrayNode) (index row column : ℕ) (part : Nest) → Some part ≡ slice_get parts index →
    or_blank (element_at (shown book part) row column) ≡ picked (map (shown book) parts) pad (Part index row column)
drawn-element book parts pad index row column part e =
    sym (ap (λ rows. or_blank (option_and_then (λ r. element_at r row column) rows)) (get-map (shown book) parts index part e))

size-reshaped : (reshape : Reshape) (s : Size) (sizes : List Size) (parts : List Nest) (pad : ArrayNode) → most size-Nest parts < size-Nest (Reshaped reshape s sizes parts pad)
size-reshaped reshape s sizes parts pad = search (rules, the_lemmas)

deepest : (parts : List Nest) (i : ℕ) (part : Nest) → Some part ≡ slice_get parts i → size-Nest part ≤ most size-Nest parts
deepest [] i part h = cc
deepest (first ∷ parts) zero part h = let e : size-Nest part ≡ size-Nest first = cc in omega (arith, e)
deepest (first ∷ parts) (suc i) part h = let k = deepest parts i part h in omega (arith, k)

pub part-falls : (nest : Nest) (reshape : Reshape) (s : Size) (sizes : List Size) (parts : List Nest) (pad : ArrayNode) (index : ℕ) (part : Nest) →
    nest ≡ Reshaped reshape s sizes parts pad → Some part ≡ slice_get parts index → size-Nest part < size-Nest nest
part-falls nest reshape s sizes parts pad index part e h =
    let whole : size-Nest nest ≡ size-Nest (Reshaped reshape s sizes parts pad) = ap size-Nest e in
    omega (arith, size-reshaped reshape s sizes parts pad, deepest parts index part h, whole)

pub ruleset elements = (cells-row, cells-column, cells-element, sequence-row, sequence-column, sequence-element, moved-place, moved-element)
