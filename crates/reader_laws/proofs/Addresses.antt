-- Absolute addresses are read.
--   address-back   in either style
use Rattle.std.proofs.Common.{◌≡◌, ℕ, zero, suc, ◌≤◌, Bool, true, false, cond, Some, None, option_map, List, [], ◌∷◌, ◌++◌, sym, ap, ◌∙◌, append_assoc, arith}
use Rattle.std.specs.Fmt.{decimal}
use Rattle.std.proofs.lemmas.Bool.Decides.{nat_tests}
use Rattle.value_core.specs.declared.position.CellReferenceIndex.{CellReferenceIndex}
use Rattle.address_core.specs.Address.{with_prefix}
use Rattle.address_core.specs.Line.{column_letters, is_column, letters_on_sheet}
use Rattle.reader_core.specs.Reading.{read_a1, read_r1c1}
use Rattle.reader_laws.specs.Back.{AddressReadsBack}
use Rattle.reader_laws.proofs.Cells.{a1-back, r1c1-back}
use Rattle.reader_laws.proofs.Numerals.{digits-are, letters-are}

on-sheet : (n : ℕ) → 1 ≤ n → n ≤ 16384 → letters_on_sheet n ≡ Some (column_letters n)
on-sheet n h k = ap (λ b. cond b (Some (column_letters n)) None) (let e : is_column n ≡ true = grind (arith, nat_tests) in e)

some-same : (a b : List ℕ) → Some a ≡ Some b → a ≡ b
some-same a b e = cc

regroup : (letters ds : List ℕ) → (((36 ∷ []) ++ letters) ++ 36 ∷ []) ++ ds ≡ 36 ∷ (letters ++ 36 ∷ ds)
regroup letters ds = ap (λ t. 36 ∷ t) (append_assoc letters (36 ∷ []) ds)

pub address-back : (a1 : Bool) (sheets : List (List ℕ)) (cell : CellReferenceIndex) (row column : ℕ) → AddressReadsBack a1 sheets cell row column
address-back a1 sheets cell zero column s h k g j text e = absurd (omega (arith, h))
address-back a1 sheets cell (suc r) zero s h k g j text e = absurd (omega (arith, g))
address-back true sheets cell (suc r) (suc c) s h k g j text e =
    let row : ℕ = suc r in
    let column : ℕ = suc c in
    let written : (((36 ∷ []) ++ column_letters column) ++ 36 ∷ []) ++ decimal row ≡ text =
    some-same _ _ (sym (ap (λ o. with_prefix None (option_map (λ letters. (((36 ∷ []) ++ letters) ++ 36 ∷ []) ++ decimal row) o)) (on-sheet column g j)) ∙ e) in
    ap (read_a1 sheets cell.sheet) (sym written ∙ regroup (column_letters column) (decimal row))
    ∙ a1-back sheets cell.sheet row column (column_letters column) (decimal row) s k j (letters-are column g j) (digits-are row h k)
address-back false sheets cell (suc r) (suc c) s h k g j text e =
    let row : ℕ = suc r in
    let column : ℕ = suc c in
    let written : 82 ∷ (decimal row ++ 67 ∷ decimal column) ≡ text = some-same _ _ e in
    ap (read_r1c1 sheets cell) (sym written)
    ∙ r1c1-back sheets cell row column (decimal row) (decimal column) s h k g j (digits-are row h k) (digits-are column g (omega (arith, j)))
