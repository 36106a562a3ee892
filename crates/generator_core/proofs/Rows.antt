-- A generated sheet row by row.
--   no-rows      an empty book with the one sheet
--   row-filled, row-filled-with   the cells of one more row, put in one after another
use Rattle.std.proofs.Common.{◌≡◌, ℕ, ◌+◌, ◌≤◌, ◌<◌, ℤ, pos, negsuc, Bool, true, false, true≢false, ◌&&◌, if◌then◌else◌, List, [], ◌∷◌, Option, Some, None, refl, sym, ap, subst, ◌∙◌, inl, inr, arith, ◌++◌, zero, suc, codes}
use Rattle.std.specs.Prelude.{nat_le, nat_lt}
use Rattle.std.specs.Ordering.{int_eq, is_eq, nat_cmp}
use Rattle.std.proofs.lemmas.Bool.{and_from, and_right, cases_lt, le-leb, lt-leb, lt-ltb}
use Rattle.std.proofs.lemmas.Bool.Decides.{Decides-int_eq}
use Rattle.value_core.specs.declared.array.ArrayNode.{ArrayNode}
use Rattle.value_core.specs.declared.array.ArrayNode.TheVariants.{Boolean, Empty, Number, String}
use Rattle.value_core.specs.declared.position.CellReferenceIndex.{CellReferenceIndex}
use Rattle.book_core.specs.Contents.{Contents, IsAddedSheet, IsSetCell, no_contents, same_cell}
use Rattle.request_core.proofs.Filling.{one_contents}
use Rattle.generator_core.specs.Sheet.{amount, in_row, in_rows, is_kept, item, sheet_with}

if-none : {A : Type 0} (test : Bool) (other : Option A) → other ≡ None → (if test then None else other) ≡ None
if-none true other is = refl
if-none false other is = is

pos-is : (a b : ℕ) → pos a ≡ pos b → a ≡ b
pos-is a b e = cc

abbrev there : ℕ → ℤ → CellReferenceIndex
there row column = record { sheet = 0; row = pos row; column = column }

module _ (seed : ℕ) where
  filled-row : (count n : ℕ) (column : ℤ) → 0 < n → n ≤ count → in_rows seed count (pos n) column ≡ in_row seed n column
  filled-row count n column some within =
      ap (λ test. if test then in_row seed n column else Empty) (and_from (nat_lt 0 n) (nat_le n count) (lt-ltb 0 n some) (le-leb n count within))

  blank-row : (count n : ℕ) (column : ℤ) → count < n → in_rows seed count (pos n) column ≡ Empty
  blank-row count n column past =
      ap (λ test. if test then in_row seed n column else Empty) (and_right (nat_lt 0 n) (nat_le n count) (lt-leb n count past))

  no-row : (row column : ℤ) → in_rows seed 0 row column ≡ Empty
  no-row (pos zero) column = refl
  no-row (pos (suc n)) column = blank-row 0 (suc n) column (omega arith)
  no-row (negsuc n) column = refl

  no-cell : (sheet : Bool) (row column : ℤ) → Empty ≡ (if sheet then in_rows seed 0 row column else Empty)
  no-cell true row column = sym (no-row row column)
  no-cell false row column = refl

  pub no-rows : (old new : Contents) → old ≡ no_contents → IsAddedSheet old new (codes "Sheet1") → new ≡ sheet_with seed 0
  no-rows old new is added =
      one_contents new (sheet_with seed 0)
      (λ place. ap (λ value. value place) added.values ∙ ap (λ (book : Contents). book.value place) is ∙ no-cell (is_eq (nat_cmp 0 place.sheet)) place.row place.column)
      (λ place. ap (λ format. format place) added.formats ∙ ap (λ (book : Contents). book.num_fmt place) is)
      (λ place. ap (λ formula. formula place) added.formulas ∙ ap (λ (book : Contents). book.formula place) is)
      (added.sheets ∙ ap (λ (book : Contents). book.sheets ++ codes "Sheet1" ∷ []) is)

module _ (seed k : ℕ) where
  abbrev chosen : (sheet row one two three : Bool) → ArrayNode → ArrayNode
  chosen sheet row one two three old =
      if sheet && row && one then String (item seed (k + 1))
      else if sheet && row && two then Boolean (is_kept seed (k + 1))
      else if sheet && row && three then Number (amount seed (k + 1))
      else old

  this-row : (one two three : Bool) (old : ArrayNode) → old ≡ Empty → chosen true true one two three old
      ≡ (if one then String (item seed (k + 1)) else if two then Boolean (is_kept seed (k + 1)) else if three then Number (amount seed (k + 1)) else Empty)
  this-row true two three old none = refl
  this-row false true three old none = refl
  this-row false false true old none = refl
  this-row false false false old none = none

  other-row : (n : ℕ) (column : ℤ) → (k + 1 ≡ n → ⊥) → in_rows seed k (pos n) column ≡ in_rows seed (k + 1) (pos n) column
  other-row n column apart = elim (cases_lt k n) [
    | inl past ↦ blank-row seed k n column past ∙ sym (blank-row seed (k + 1) n column (beyond past))
    | inr within ↦ up-to n within
  ]
    where
      beyond : k < n → k + 1 < n
      beyond past = omega (arith, past, apart)

      up-to : (n : ℕ) → n ≤ k → in_rows seed k (pos n) column ≡ in_rows seed (k + 1) (pos n) column
      up-to zero within = refl
      up-to (suc n) within =
          filled-row seed k (suc n) column (omega arith) within ∙ sym (filled-row seed (k + 1) (suc n) column (omega arith) (omega (arith, within)))

  of-row : (n : ℕ) (column : ℤ) (same : Bool) → int_eq (pos (k + 1)) (pos n) ≡ same
      → chosen true same (int_eq (pos 1) column) (int_eq (pos 2) column) (int_eq (pos 3) column) (in_rows seed k (pos n) column) ≡ in_rows seed (k + 1) (pos n) column
  of-row n column true is =
      let here : k + 1 ≡ n = pos-is (k + 1) n ((Decides-int_eq (pos (k + 1)) (pos n)).0 is) in
      this-row (int_eq (pos 1) column) (int_eq (pos 2) column) (int_eq (pos 3) column) (in_rows seed k (pos n) column) (blank-row seed k n column (omega (arith, here)))
      ∙ ap (λ row. in_row seed row column) here ∙ sym (filled-row seed (k + 1) n column (omega (arith, here)) (omega (arith, here)))
  of-row n column false is =
      other-row n column (λ here. true≢false (sym ((Decides-int_eq (pos (k + 1)) (pos n)).1 (ap pos here)) ∙ is))

  of-sheet : (sheet : Bool) (row column : ℤ)
      → chosen sheet (int_eq (pos (k + 1)) row) (int_eq (pos 1) column) (int_eq (pos 2) column) (int_eq (pos 3) column) (if sheet then in_rows seed k row column else Empty)
      ≡ (if sheet then in_rows seed (k + 1) row column else Empty)
  of-sheet false row column = refl
  of-sheet true (pos n) column = of-row n column (int_eq (pos (k + 1)) (pos n)) refl
  of-sheet true (negsuc n) column = refl

  pub row-filled : (a b c d : Contents) → IsSetCell a b (there (k + 1) (pos 3)) (Number (amount seed (k + 1))) None None
      → IsSetCell b c (there (k + 1) (pos 2)) (Boolean (is_kept seed (k + 1))) None None
      → IsSetCell c d (there (k + 1) (pos 1)) (String (item seed (k + 1))) None None → a ≡ sheet_with seed k → d ≡ sheet_with seed (k + 1)
  row-filled a b c d three two one is =
      let first : CellReferenceIndex → Bool = λ place. same_cell (there (k + 1) (pos 1)) place in
      let second : CellReferenceIndex → Bool = λ place. same_cell (there (k + 1) (pos 2)) place in
      let third : CellReferenceIndex → Bool = λ place. same_cell (there (k + 1) (pos 3)) place in
      one_contents d (sheet_with seed (k + 1))
      (λ place. one.values place ∙ ap (λ old. if first place then String (item seed (k + 1)) else old)
      (two.values place ∙ ap (λ old. if second place then Boolean (is_kept seed (k + 1)) else old)
      (three.values place ∙ ap (λ (book : Contents). if third place then Number (amount seed (k + 1)) else book.value place) is))
      ∙ of-sheet (is_eq (nat_cmp 0 place.sheet)) place.row place.column)
      (λ place. one.formats place ∙ if-none (first place) (c.num_fmt place) (two.formats place
      ∙ if-none (second place) (b.num_fmt place) (three.formats place ∙ if-none (third place) (a.num_fmt place) (ap (λ (book : Contents). book.num_fmt place) is))))
      (λ place. one.formulas place ∙ if-none (first place) (c.formula place) (two.formulas place
      ∙ if-none (second place) (b.formula place) (three.formulas place ∙ if-none (third place) (a.formula place) (ap (λ (book : Contents). book.formula place) is))))
      (one.sheets ∙ two.sheets ∙ three.sheets ∙ ap (λ (book : Contents). book.sheets) is)

  -- the same of values as they are reckoned
  pub row-filled-with : (a b c d : Contents) (row : ℕ) (element : ArrayNode) (kept : Bool) (text : List ℕ) → row ≡ k + 1
      → element ≡ Number (amount seed row) → kept ≡ is_kept seed row → text ≡ item seed row
      → IsSetCell a b (there row (pos 3)) element None None → IsSetCell b c (there row (pos 2)) (Boolean kept) None None
      → IsSetCell c d (there row (pos 1)) (String text) None None → a ≡ sheet_with seed k → d ≡ sheet_with seed (k + 1)
  row-filled-with a b c d row element kept text here third second first three two one is =
      row-filled a b c d
      (subst (λ (p : ℕ × ArrayNode). IsSetCell a b (there p.0 (pos 3)) p.1 None None) (λ i. (here i, (third ∙ ap (λ row. Number (amount seed row)) here) i)) three)
      (subst (λ (p : ℕ × ArrayNode). IsSetCell b c (there p.0 (pos 2)) p.1 None None) (λ i. (here i, (ap Boolean second ∙ ap (λ row. Boolean (is_kept seed row)) here) i)) two)
      (subst (λ (p : ℕ × ArrayNode). IsSetCell c d (there p.0 (pos 1)) p.1 None None) (λ i. (here i, (ap String first ∙ ap (λ row. String (item seed row)) here) i)) one)
      is
