-- Cells as texts, read.
--   a1-back        an absolute address by letters and digits
--   r1c1-back      an absolute address by numbers
use Rattle.std.proofs.Common.{◌≡◌, ℕ, pos, ℤ, ◌+◌, ◌-◌, ◌<◌, ◌≤◌, eqb, ltb, leb, Bool, true, false, ◌&&◌, not, cond, int_lt, Some, None, option_and_then, List, [], ◌∷◌, ◌++◌, length, take, drop, refl, ap, ap₂, ◌∙◌, arith}
use Rattle.std.specs.Char.{is_ascii_alphabetic, is_ascii_digit}
use Rattle.std.specs.Int.{int_max, int_min}
use Rattle.std.specs.List.{after_first, before_first, list_all, position_or_len, prefix_len}
use Rattle.std.proofs.lemmas.Bool.{false≢true}
use Rattle.std.proofs.lemmas.Bool.Decides.{nat_tests}
use Rattle.std.proofs.lemmas.List.{drop_at, take_at}
use Rattle.std.proofs.lemmas.List.Folds.{list_all-append}
use Rattle.std.proofs.Math.Seq.{drop-append-add}
use Rattle.value_core.specs.declared.position.CellReferenceIndex.{CellReferenceIndex}
use Rattle.address_core.specs.Line.{column_of, few_digits, row_of}
use Rattle.reader_core.specs.A1.{a1_ends, a1_part, cell_part, one_cell, part_of, past_dollar, two_parts}
use Rattle.reader_core.specs.R1C1.{in_brackets, is_c, line_of, moved, on_axis, r1c1_ends, r1c1_spot, same_ends, signed_digits, spot_at}
use Rattle.reader_core.specs.Reading.{read_a1, read_r1c1}
use Rattle.reader_core.specs.Sheet.{body_of, body_start, given_sheet, head_of, sheet_of}
use Rattle.reader_core.specs.Spot.{ends_at, is_colon, positive, range_in, range_of}
use Rattle.reader_laws.specs.Back.{one_cell_range}
use Rattle.reader_laws.proofs.Clean.{all-more, body-start, is_clean, no-colon, prefix-all}
use Rattle.reader_laws.proofs.Numerals.{AreDigits, AreLetters, column-back, digits-back, row-back}

-- the range between a cell and itself
min-same : (z : ℤ) → int_min z z ≡ z
min-same z = elim (int_lt z z) as (λ b. cond b z z ≡ z) [ true ↦ refl | false ↦ refl ]

max-same : (z : ℤ) → int_max z z ≡ z
max-same z = elim (int_lt z z) as (λ b. cond b z z ≡ z) [ true ↦ refl | false ↦ refl ]

same-range : (sheet row column : ℕ) → range_of sheet (record { one = record { row = pos row; column = pos column }; other = record { row = pos row; column = pos column } }) ≡ one_cell_range sheet row column
same-range sheet row column = λ i. record {
  left = record { sheet = sheet; row = min-same (pos row) i; column = min-same (pos column) i };
  right = record { sheet = sheet; row = max-same (pos row) i; column = max-same (pos column) i };
}

here : (sheets : List (List ℕ)) (sheet : ℕ) → sheet < length sheets → given_sheet sheets sheet ≡ Some sheet
here sheets sheet h = ap (λ b. cond b (Some sheet) None) (let e : ltb sheet (length sheets) ≡ true = grind (arith, nat_tests) in e)

no-head : (text : List ℕ) → body_start text ≡ 0 → head_of text ≡ None
no-head text e = ap (λ n. cond (leb 1 n) (Some (take (n - 1) text)) None) e

all-body : (text : List ℕ) → body_start text ≡ 0 → body_of text ≡ text
all-body text e = ap (λ n. drop n text) e

clean-sheet : (sheets : List (List ℕ)) (sheet : ℕ) (text : List ℕ) → sheet < length sheets → list_all is_clean text ≡ true → sheet_of sheets sheet (head_of text) ≡ Some sheet
clean-sheet sheets sheet text h clean = ap (sheet_of sheets sheet) (no-head text (body-start text clean)) ∙ here sheets sheet h

clean-body : (text : List ℕ) → list_all is_clean text ≡ true → body_of text ≡ text
clean-body text clean = all-body text (body-start text clean)

-- by letters and digits
clean-letter : (c : ℕ) → is_ascii_alphabetic c ≡ true → is_clean c ≡ true
clean-letter c h = grind (arith, nat_tests)

clean-digit : (c : ℕ) → is_ascii_digit c ≡ true → is_clean c ≡ true
clean-digit c h = grind (arith, nat_tests)

joined-clean : (xs ys : List ℕ) (c : ℕ) → list_all is_clean xs ≡ true → is_clean c ≡ true → list_all is_clean ys ≡ true → list_all is_clean (xs ++ c ∷ ys) ≡ true
joined-clean xs ys c e f g = list_all-append is_clean xs (c ∷ ys) ∙ ap₂ (λ a b. a && b) e (ap₂ (λ a b. a && b) f g)

part-is : (letters rest : List ℕ) (d : ℕ) → 1 ≤ length letters → part_of letters (d ∷ rest) ≡ cell_part (positive (column_of letters)) (positive (row_of (past_dollar (d ∷ rest))))
part-is [] rest d h = absurd (omega (arith, h))
part-is (c ∷ letters) rest d h = refl

cell-part-is : (letters ds : List ℕ) (row column : ℕ) → row ≤ 1048576 → column ≤ 16384 → AreLetters letters column → AreDigits ds row
    → a1_part (36 ∷ (letters ++ 36 ∷ ds)) ≡ cell_part (Some (pos column)) (Some (pos row))
cell-part-is letters ds row column h k ls are =
    let count : prefix_len is_ascii_alphabetic (letters ++ 36 ∷ ds) ≡ length letters = prefix-all is_ascii_alphabetic letters ds 36 ls.all refl in
    ap₂ part_of (ap (λ n. take n (letters ++ 36 ∷ ds)) count ∙ take_at letters (36 ∷ ds) (length letters) refl) (ap (λ n. drop n (letters ++ 36 ∷ ds)) count ∙ drop_at letters (36 ∷ ds) (length letters) refl)
    ∙ part-is letters ds 36 ls.some
    ∙ ap₂ (λ c r. cell_part (positive c) (positive r)) (column-back column letters k ls) (row-back row ds h are)

pub a1-back : (sheets : List (List ℕ)) (sheet row column : ℕ) (letters ds : List ℕ) → sheet < length sheets → row ≤ 1048576 → column ≤ 16384 → AreLetters letters column → AreDigits ds row
    → read_a1 sheets sheet (36 ∷ (letters ++ 36 ∷ ds)) ≡ Some (one_cell_range sheet row column)
a1-back sheets sheet row column letters ds s h k ls are =
    let text : List ℕ = 36 ∷ (letters ++ 36 ∷ ds) in
    let clean : list_all is_clean text ≡ true = joined-clean letters ds 36 (all-more is_ascii_alphabetic is_clean clean-letter letters ls.all) refl (all-more is_ascii_digit is_clean clean-digit ds are.all) in
    let ends : a1_ends text ≡ one_cell (cell_part (Some (pos column)) (Some (pos row))) =
    ap (λ b. cond b (two_parts (a1_part (before_first is_colon text)) (a1_part (after_first is_colon text))) (one_cell (a1_part text))) (no-colon text clean)
    ∙ ap one_cell (cell-part-is letters ds row column h k ls are) in
    ap₂ range_in (clean-sheet sheets sheet text s clean) (ap a1_ends (clean-body text clean) ∙ ends) ∙ ap Some (same-range sheet row column)

-- by numbers
digit-no-c : (c : ℕ) → is_ascii_digit c ≡ true → not (is_c c) ≡ true
digit-no-c c h = grind (arith, nat_tests)

line-digits : (own : ℤ) (ds : List ℕ) → 1 ≤ length ds → list_all is_ascii_digit ds ≡ true → line_of own ds ≡ positive (few_digits ds)
line-digits own [] h all = absurd (omega (arith, h))
line-digits own (c ∷ ds) h all = ap (λ b. cond b (moved own (option_and_then signed_digits (in_brackets ds))) (positive (few_digits (c ∷ ds)))) (digit-no-bracket c (first-true (is_ascii_digit c) (list_all is_ascii_digit ds) all))
  where
    first-true : (a b : Bool) → (a && b) ≡ true → a ≡ true
    first-true true b h = refl
    first-true false b h = absurd (false≢true h)

    digit-no-bracket : (c : ℕ) → is_ascii_digit c ≡ true → eqb c 91 ≡ false
    digit-no-bracket c h = grind (arith, nat_tests)

within : (last n : ℕ) → 1 ≤ n → n ≤ last → on_axis (pos last) (pos n) ≡ Some (pos n)
within last n h k = grind (arith, nat_tests)

axis-back : (own : ℤ) (last n : ℕ) (ds : List ℕ) → 1 ≤ n → n ≤ last → AreDigits ds n → option_and_then (on_axis (pos last)) (line_of own ds) ≡ Some (pos n)
axis-back own last n ds h k are =
    ap (option_and_then (on_axis (pos last))) (line-digits own ds are.some are.all ∙ ap positive (digits-back n ds are)) ∙ within last n h k

spot-back : (own-row own-column : ℤ) (row column : ℕ) (ds es : List ℕ) → 1 ≤ row → row ≤ 1048576 → 1 ≤ column → column ≤ 16384 → AreDigits ds row → AreDigits es column
    → r1c1_spot own-row own-column (82 ∷ (ds ++ 67 ∷ es)) ≡ spot_at (Some (pos row)) (Some (pos column))
spot-back own-row own-column row column ds es a b c d rows columns =
    let text : List ℕ = ds ++ 67 ∷ es in
    let count : position_or_len is_c text ≡ length ds = prefix-all (λ x. not (is_c x)) ds es 67 (all-more is_ascii_digit (λ x. not (is_c x)) digit-no-c ds rows.all) refl in
    let inside : ltb (position_or_len is_c text) (length text) ≡ true = (let e : length ds < length text = length-less ds es in grind (arith, nat_tests, e, count)) in
    ap (λ t. cond t (spot_at (option_and_then (on_axis (pos 1048576)) (line_of own-row (before_first is_c text))) (option_and_then (on_axis (pos 16384)) (line_of own-column (after_first is_c text)))) None) inside
    ∙ ap₂ (λ front behind. spot_at (option_and_then (on_axis (pos 1048576)) (line_of own-row front)) (option_and_then (on_axis (pos 16384)) (line_of own-column behind)))
    (ap (λ n. take n text) count ∙ take_at ds (67 ∷ es) (length ds) refl) (ap (λ n. drop (n + 1) text) count ∙ drop-append-add ds (67 ∷ es) 1)
    ∙ ap₂ spot_at (axis-back own-row 1048576 row ds a b rows) (axis-back own-column 16384 column es c d columns)
  where
    length-less : (xs ys : List ℕ) → length xs < length (xs ++ 67 ∷ ys)
    length-less [] ys = omega arith
    length-less (x ∷ xs) ys = omega (arith, length-less xs ys)

pub r1c1-back : (sheets : List (List ℕ)) (cell : CellReferenceIndex) (row column : ℕ) (ds es : List ℕ) → cell.sheet < length sheets → 1 ≤ row → row ≤ 1048576 → 1 ≤ column → column ≤ 16384 → AreDigits ds row → AreDigits es column
    → read_r1c1 sheets cell (82 ∷ (ds ++ 67 ∷ es)) ≡ Some (one_cell_range cell.sheet row column)
r1c1-back sheets cell row column ds es s a b c d rows columns =
    let text : List ℕ = 82 ∷ (ds ++ 67 ∷ es) in
    let clean : list_all is_clean text ≡ true = joined-clean ds es 67 (all-more is_ascii_digit is_clean clean-digit ds rows.all) refl (all-more is_ascii_digit is_clean clean-digit es columns.all) in
    let ends : r1c1_ends cell.row cell.column text ≡ same_ends (spot_at (Some (pos row)) (Some (pos column))) =
    ap (λ t. cond t (ends_at (r1c1_spot cell.row cell.column (before_first is_colon text)) (r1c1_spot cell.row cell.column (after_first is_colon text))) (same_ends (r1c1_spot cell.row cell.column text))) (no-colon text clean)
    ∙ ap same_ends (spot-back cell.row cell.column row column ds es a b c d rows columns) in
    ap₂ range_in (clean-sheet sheets cell.sheet text s clean) (ap (r1c1_ends cell.row cell.column) (clean-body text clean) ∙ ends) ∙ ap Some (same-range cell.sheet row column)
