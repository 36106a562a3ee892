-- A rectangle that is filled place by place.
--   row-more    one element more of a row
--   rows-more   one row more
--   steps-more  and its steps
--   laid-full   all rows are as many elements as the rectangle has
--   cut-full    and cut into rows they are the rectangle
use Rattle.std.proofs.Common.{◌≡◌, ℕ, zero, suc, ◌+◌, ◌*◌, ◌≤◌, List, [], ◌∷◌, ◌++◌, length, map, refl, sym, ap, ap₂, ◌∙◌, arith, append_assoc, length-append, add-one}
use Rattle.std.specs.List.{flat_map, range_with_len}
use Rattle.std.proofs.lemmas.List.{take_at, drop_at, map-id, append-nil}
use Rattle.std.proofs.lemmas.List.Concat.{flat_map-append}
use Rattle.std.proofs.lemmas.List.FromFn.{length-map-range_with_len, map-range_with_len_more}
use Rattle.std.proofs.Math.Nat.{suc-mul}
use Rattle.value_core.specs.declared.array.ArrayNode.{ArrayNode}
use Rattle.rectangle_core.specs.Rectangle.{tabulate, rectangle, cut, laid}

pub row-more : (f : ℕ → ArrayNode) (before cells after : List ArrayNode) (e : ArrayNode) (column : ℕ) →
    cells ≡ before ++ tabulate column f → after ≡ cells ++ e ∷ [] → e ≡ f column → after ≡ before ++ tabulate (column + 1) f
row-more f before cells after e column h k v =
    k ∙ ap₂ (λ front last. front ++ last ∷ []) h v ∙ append_assoc before (tabulate column f) (f column ∷ [])
    ∙ ap (λ row. before ++ row) (sym (map-range_with_len_more f 0 column column (omega arith)))

range-more : (rows : ℕ) → range_with_len 0 (rows + 1) ≡ range_with_len 0 rows ++ rows ∷ []
range-more rows = sym (map-id (range_with_len 0 (rows + 1))) ∙ map-range_with_len_more (λ x. x) 0 rows rows (omega arith) ∙ ap (λ front. front ++ rows ∷ []) (map-id (range_with_len 0 rows))

laid-more : (rows columns : ℕ) (f : ℕ → ℕ → ArrayNode) → laid (rows + 1) columns f ≡ laid rows columns f ++ tabulate columns (f rows)
laid-more rows columns f =
    let row : ℕ → List ArrayNode = λ i. tabulate columns (f i) in
    ap (flat_map row) (range-more rows) ∙ flat_map-append row (range_with_len 0 rows) (rows ∷ []) ∙ ap (λ last. laid rows columns f ++ last) (append-nil (row rows))

pub rows-more : (f : ℕ → ℕ → ArrayNode) (cells after : List ArrayNode) (row columns : ℕ) →
    cells ≡ laid row columns f → after ≡ cells ++ tabulate columns (f row) → after ≡ laid (row + 1) columns f
rows-more f cells after row columns h k = k ∙ ap (λ front. front ++ tabulate columns (f row)) h ∙ sym (laid-more row columns f)

pub steps-more : (n w s t u : ℕ) → u ≤ t + w → t ≤ s + n * w → u ≤ s + (n + 1) * w
steps-more n w s t u h k = let e : (n + 1) * w ≡ n * w + w = ap (λ m. m * w) (add-one n) ∙ suc-mul n w in omega (arith, e)

length-ranged : (columns : ℕ) (row : ℕ → List ArrayNode) → ((i : ℕ) → length (row i) ≡ columns) → (from rows : ℕ) → length (flat_map row (range_with_len from rows)) ≡ rows * columns
length-ranged columns row even from zero = let e : 0 ≡ 0 * columns = omega arith in e
length-ranged columns row even from (suc rows) =
    length-append (row from) (flat_map row (range_with_len (from + 1) rows)) ∙ ap₂ (λ m n. m + n) (even from) (length-ranged columns row even (from + 1) rows)
    ∙ (let e : columns + rows * columns ≡ suc rows * columns = omega arith in e)

cut-ranged : (columns : ℕ) (row : ℕ → List ArrayNode) → ((i : ℕ) → length (row i) ≡ columns) → (from rows : ℕ) → cut rows columns (flat_map row (range_with_len from rows)) ≡ map row (range_with_len from rows)
cut-ranged columns row even from zero = refl
cut-ranged columns row even from (suc rows) =
    ap₂ (λ first rest. first ∷ rest) (take_at (row from) (flat_map row (range_with_len (from + 1) rows)) columns (even from))
    (ap (cut rows columns) (drop_at (row from) (flat_map row (range_with_len (from + 1) rows)) columns (even from)) ∙ cut-ranged columns row even (from + 1) rows)

same : (m n : ℕ) → m ≤ n → n ≤ m → m ≡ n
same m n h k = omega arith

length-laid : (rows columns : ℕ) (f : ℕ → ℕ → ArrayNode) → length (laid rows columns f) ≡ rows * columns
length-laid rows columns f = length-ranged columns (λ i. tabulate columns (f i)) (λ i. length-map-range_with_len (f i) 0 columns) 0 rows

pub laid-full : (f : ℕ → ℕ → ArrayNode) (cells : List ArrayNode) (row rows columns : ℕ) → rows ≤ row → row ≤ rows → cells ≡ laid row columns f → rows * columns ≡ length cells
laid-full f cells row rows columns h k e = ap (λ n. n * columns) (same rows row h k) ∙ sym (length-laid row columns f) ∙ ap length (sym e)

pub cut-full : (f : ℕ → ℕ → ArrayNode) (cells : List ArrayNode) (row rows columns : ℕ) → rows ≤ row → row ≤ rows → cells ≡ laid row columns f → cut rows columns cells ≡ rectangle rows columns f
cut-full f cells row rows columns h k e =
    ap (λ n. cut n columns cells) (same rows row h k) ∙ ap (cut row columns) e
    ∙ cut-ranged columns (λ i. tabulate columns (f i)) (λ i. length-map-range_with_len (f i) 0 columns) 0 row
    ∙ ap (λ n. rectangle n columns f) (same row rows k h)

pub ruleset fills = (row-more, rows-more, steps-more, laid-full, cut-full)
