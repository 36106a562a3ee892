-- The unique rows of unique rows are all of them.
--   rows-are      the rows of some numbers, one by one
--   keys-are      the keys of a rectangle are those of its rows
--   again         the unique rows of what was kept
--   kept-again    and so of what is an answer
use Rattle.std.proofs.Common.{◌≡◌, ℕ, zero, suc, ◌+◌, ◌<◌, ◌≤◌, Bool, true, false, cond, not, ◌||◌, List, [], ◌∷◌, ◌++◌, length, get_or, map, take, refl, sym, ap, ap₂, ◌∙◌, subst, arith, append-nil, length-append, add-one, ⊎_elim}
use Rattle.std.proofs.lemmas.Bool.{cases_eq}
use Rattle.std.proofs.lemmas.List.{get_or-map, get_or_append_left, length-map, map-append, map-id, take-append-le}
use Rattle.std.proofs.lemmas.List.FromFn.{fill_by_all, get_or-map-range_with_len, length-map-range_with_len, length-range_with_len, map-range_with_len_more, take-map-range_with_len}
use Rattle.std.proofs.lemmas.Simd.{map-map}
use Rattle.std.proofs.Math.Seq.{get_or-append_seam, take-append_seam}
use Rattle.std.specs.List.{filter, list_any, range_with_len}
use Rattle.value_core.specs.declared.array.ArrayNode.{ArrayNode}
use Rattle.value_core.specs.declared.position.CellReferenceIndex.{CellReferenceIndex}
use Rattle.rectangle_core.specs.Rectangle.{element_at, height, or_blank, tabulate, width, IsRectangle}
use Rattle.rectangle_core.proofs.Rectangles.{height-rectangle, rectangle-is, whole}
use Rattle.grid_core.specs.declared.calc_result.CalcResult.{CalcResult}
use Rattle.grid_core.specs.declared.calc_result.CalcResult.TheVariants.{Array}
use Rattle.key_core.specs.declared.key.CellKey.{CellKey}
use Rattle.key_core.specs.Key.{row_key_of}
use Rattle.key_core.specs.Kept.{first_positions, is_first}
use Rattle.key_core.specs.Row.{one_row}
use Rattle.key_core.proofs.Keeping.{kept-more}
use Rattle.kept_ops.specs.Lines.{one_line}
use Rattle.kept_ops.specs.Part.{rows_at}
use Rattle.kept_ops.specs.Unique.{line_keys, lines_or_calc, unique_of}

rows-are : (rows : List (List ArrayNode)) (is : List ℕ) → rows_at rows is ≡ map (one_line false rows) is
rows-are rows is = sym (fill_by_all (λ i. one_line false rows (get_or is i 0)) (map (one_line false rows) is) (length is) [] (length-map is (one_line false rows))
    (λ k h. get_or-map (one_line false rows) is k 0 [] h))

keys-are : (rows : List (List ArrayNode)) → IsRectangle rows → line_keys false rows ≡ map row_key_of rows
keys-are rows is = sym (map-map row_key_of (one_line false rows) (range_with_len 0 (height rows))) ∙ ap (map row_key_of) (whole rows is)

-- no key stands before itself
abbrev AreApart : List (List CellKey) → Type 0
AreApart keys = (i : ℕ) → i < length keys → is_first keys i ≡ true

apart-more : (keys : List (List CellKey)) (key : List CellKey) → AreApart keys → list_any (one_row key) keys ≡ false → AreApart (keys ++ key ∷ [])
apart-more keys key apart none i below = ⊎_elim
    (λ e. ap (is_first (keys ++ key ∷ [])) e
    ∙ ap₂ (λ k front. not (list_any (one_row k) front)) (get_or-append_seam keys key [] []) (take-append_seam keys (key ∷ [])) ∙ ap not none)
    (λ ne. let inside : i < length keys = omega (arith, below, ne, length-append keys (key ∷ [])) in
    ap₂ (λ k front. not (list_any (one_row k) front)) (get_or_append_left keys (key ∷ []) [] i inside) (take-append-le i keys (key ∷ []) (omega (arith, inside)))
    ∙ apart i inside)
    (cases_eq i (length keys))

apart-kept : (K : ℕ → List CellKey) (is : List ℕ) (m : ℕ) (b : Bool) → AreApart (map K is) → (b ≡ true → list_any (one_row (K m)) (map K is) ≡ false) → AreApart (map K (is ++ cond b (m ∷ []) []))
apart-kept K is m true apart none = subst AreApart (sym (map-append K is (m ∷ []))) (apart-more (map K is) (K m) apart (none refl))
apart-kept K is m false apart none = subst AreApart (ap (map K) (sym (append-nil is))) apart

none-left : (a b : Bool) → (a || b) ≡ false → a ≡ false
none-left true b h = h
none-left false b h = refl

none-right : (a b : Bool) → (a || b) ≡ false → b ≡ false
none-right true true h = h
none-right true false h = refl
none-right false b h = h

none-both : (a b : Bool) → a ≡ false → b ≡ false → (a || b) ≡ false
none-both a b h k = ap₂ (λ x y. x || y) h k

fewer : (K : ℕ → List CellKey) (p : List CellKey → Bool) (q : ℕ → Bool) (is : List ℕ) → list_any p (map K is) ≡ false → list_any p (map K (filter q is)) ≡ false
fewer K p q [] h = h
fewer K p q (i ∷ is) h = elim (q i) as (λ b. list_any p (map K (cond b (i ∷ filter q is) (filter q is))) ≡ false) [
  | true ↦ none-both (p (K i)) _ (none-left (p (K i)) _ h) (fewer K p q is (none-right (p (K i)) _ h))
  | false ↦ fewer K p q is (none-right (p (K i)) _ h)
]

-- a first position's key stands at no earlier one
none-before : (K : ℕ → List CellKey) (h m : ℕ) → m < h → is_first (tabulate h K) m ≡ true → list_any (one_row (K m)) (map K (range_with_len 0 m)) ≡ false
none-before K h m l first =
    ap₂ (λ k front. list_any (one_row k) front) (sym (get_or-map-range_with_len K 0 h m m [] l (omega arith))) (sym (take-map-range_with_len K 0 h m (omega (arith, l))))
    ∙ denied (list_any (one_row (get_or (tabulate h K) m [])) (take m (tabulate h K))) first
  where
    denied : (b : Bool) → not b ≡ true → b ≡ false
    denied true e = sym e
    denied false e = refl

all-apart : (K : ℕ → List CellKey) (h m : ℕ) → m ≤ h → AreApart (map K (filter (is_first (tabulate h K)) (range_with_len 0 m)))
all-apart K h zero l = λ i below. absurd (omega (arith, below))
all-apart K h (suc m) l =
    let q : ℕ → Bool = is_first (tabulate h K) in
    subst (λ n. AreApart (map K (filter q (range_with_len 0 n)))) (add-one m)
    (subst (λ is. AreApart (map K is)) (kept-more q m (q m) (filter q (range_with_len 0 m)) refl refl)
    (apart-kept K (filter q (range_with_len 0 m)) m (q m) (all-apart K h m (omega (arith, l)))
    (λ first. fewer K (one_row (K m)) q (range_with_len 0 m) (none-before K h m (omega (arith, l)) first))))

range-more : (n : ℕ) → range_with_len 0 (n + 1) ≡ range_with_len 0 n ++ n ∷ []
range-more n = sym (map-id (range_with_len 0 (n + 1))) ∙ map-range_with_len_more (λ x. x) 0 n n (omega arith) ∙ ap (λ front. front ++ n ∷ []) (map-id (range_with_len 0 n))

all-kept : (p : ℕ → Bool) (n : ℕ) → ((i : ℕ) → i < n → p i ≡ true) → filter p (range_with_len 0 n) ≡ range_with_len 0 n
all-kept p zero h = refl
all-kept p (suc n) h =
    subst (λ m. filter p (range_with_len 0 m) ≡ range_with_len 0 m) (add-one n)
    (sym (kept-more p n true (range_with_len 0 n) (h n (omega arith)) (sym (all-kept p n (λ i l. h i (omega (arith, l)))))) ∙ sym (range-more n))

lines-some : (cell : CellReferenceIndex) (rows : List (List ArrayNode)) (is : List ℕ) → 1 ≤ length is → lines_or_calc cell false rows is ≡ Array (rows_at rows is)
lines-some cell rows [] some = absurd (omega (arith, some))
lines-some cell rows (i ∷ is) some = refl

again : (cell : CellReferenceIndex) (rows : List (List ArrayNode)) → IsRectangle rows → (is : List ℕ) → is ≡ first_positions (line_keys false rows) → 1 ≤ length is →
    unique_of cell false false (rows_at rows is) ≡ Array (rows_at rows is)
again cell rows ok is e some =
    let made : List (List ArrayNode) = rows_at rows is in
    let made-ok : IsRectangle made = rectangle-is (length is) (width rows) (λ i j. or_blank (element_at rows (get_or is i 0) j)) some ok.some_column in
    let K : ℕ → List CellKey = λ i. row_key_of (one_line false rows i) in
    let h : ℕ = height rows in
    let first : is ≡ filter (is_first (tabulate h K)) (range_with_len 0 h) = e ∙ ap (λ n. filter (is_first (tabulate h K)) (range_with_len 0 n)) (length-map-range_with_len K 0 h) in
    let apart : AreApart (map K is) = subst (λ js. AreApart (map K js)) (sym first) (all-apart K h h (omega arith)) in
    let keys : line_keys false made ≡ map K is = keys-are made made-ok ∙ ap (map row_key_of) (rows-are rows is) ∙ map-map row_key_of (one_line false rows) is in
    let all : first_positions (line_keys false made) ≡ range_with_len 0 (length is) =
    ap first_positions keys ∙ all-kept (is_first (map K is)) (length (map K is)) apart ∙ ap (range_with_len 0) (length-map is K) in
    let tall : height made ≡ length is = height-rectangle (length is) (width rows) (λ i j. or_blank (element_at rows (get_or is i 0) j)) in
    ap (lines_or_calc cell false made) all
    ∙ lines-some cell made (range_with_len 0 (length is)) (omega (arith, some, length-range_with_len 0 (length is)))
    ∙ ap Array (rows-are made (range_with_len 0 (length is)) ∙ ap (λ n. map (one_line false made) (range_with_len 0 n)) (sym tall) ∙ whole made made-ok)

array_in : CalcResult → List (List ArrayNode)
array_in (Array rows) = rows
array_in other = []

pub kept-again : (cell : CellReferenceIndex) (rows made : List (List ArrayNode)) → IsRectangle rows → (is : List ℕ) → is ≡ first_positions (line_keys false rows) →
    lines_or_calc cell false rows is ≡ Array made → unique_of cell false false made ≡ Array made
unfolding array_in
kept-again cell rows made ok [] e h = cc
kept-again cell rows made ok (i ∷ is) e h =
    subst (λ made. unique_of cell false false made ≡ Array made) (ap array_in h) (again cell rows ok (i ∷ is) e (omega arith))
