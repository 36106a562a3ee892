-- Rows of one length.
--   even-good   a row of that length and those behind it
--   even-bad    a row of another length
--   even-end    no row is left
--   row-there   a row that is in the list is there
use Rattle.std.proofs.Common.{◌≡◌, ℕ, zero, suc, ◌+◌, ◌<◌, ◌≤◌, ◌==◌, ◌&&◌, Bool, true, false, List, [], ◌∷◌, Option, Some, None, drop, length, slice_get, refl, sym, ap, ◌∙◌, arith}
use Rattle.std.specs.List.{list_all}
use Rattle.std.proofs.lemmas.Bool.{eqb-true, eq-eqb}
use Rattle.value_core.specs.declared.array.ArrayNode.{ArrayNode}

pub even-on : (columns : ℕ) (rows : List (List ArrayNode)) (i : ℕ) (row : List ArrayNode) → Some row ≡ slice_get rows i
    → list_all (λ row. length row == columns) (drop i rows) ≡ ((length row == columns) && list_all (λ row. length row == columns) (drop (i + 1) rows))
even-on columns rows i row h = next rows i h ∙ ap (λ k. (length row == columns) && list_all (λ row. length row == columns) (drop k rows)) (let one_more : suc i ≡ i + 1 = omega arith in one_more)
  where
    next : (rows : List (List ArrayNode)) (i : ℕ) → Some row ≡ slice_get rows i
        → list_all (λ row. length row == columns) (drop i rows) ≡ ((length row == columns) && list_all (λ row. length row == columns) (drop (suc i) rows))
    next [] i h = cc
    next (first ∷ rows) zero h = let e : row ≡ first = cc in rw e refl
    next (first ∷ rows) (suc i) h = next rows i h

pub even-end : (columns : ℕ) (rows : List (List ArrayNode)) (i : ℕ) → length rows ≤ i → list_all (λ row. length row == columns) (drop i rows) ≡ true
even-end columns [] zero h = refl
even-end columns [] (suc i) h = refl
even-end columns (row ∷ rows) zero h = absurd (omega (arith, h))
even-end columns (row ∷ rows) (suc i) h = even-end columns rows i (omega (arith, h))

pub even-good : (columns : ℕ) (rows : List (List ArrayNode)) (i : ℕ) (row : List ArrayNode) → Some row ≡ slice_get rows i → length row ≡ columns
    → list_all (λ row. length row == columns) (drop (i + 1) rows) ≡ list_all (λ row. length row == columns) (drop i rows)
even-good columns rows i row h e = sym (even-on columns rows i row h ∙ ap (λ b. b && list_all (λ row. length row == columns) (drop (i + 1) rows)) (eq-eqb (length row) columns e))

bad-by : (columns : ℕ) (rows : List (List ArrayNode)) (i : ℕ) (row : List ArrayNode) (b : Bool) → (length row == columns) ≡ b → (length row ≡ columns → ⊥)
    → (b && list_all (λ row. length row == columns) (drop (i + 1) rows)) ≡ false
bad-by columns rows i row true e n = absurd (n (eqb-true (length row) columns e))
bad-by columns rows i row false e n = refl

pub even-bad : (columns : ℕ) (rows : List (List ArrayNode)) (i : ℕ) (row : List ArrayNode) → Some row ≡ slice_get rows i → (length row ≡ columns → ⊥)
    → false ≡ list_all (λ row. length row == columns) (drop i rows)
even-bad columns rows i row h n = sym (even-on columns rows i row h ∙ ap (λ b. b && list_all (λ row. length row == columns) (drop (i + 1) rows)) refl ∙ bad-by columns rows i row (length row == columns) refl n)

pub row-there : (rows : List (List ArrayNode)) (i : ℕ) → i < length rows → None ≡ slice_get rows i → ⊥
row-there [] i h e = omega (arith, h)
row-there (row ∷ rows) zero h e = cc
row-there (row ∷ rows) (suc i) h e = row-there rows i (omega (arith, h)) e

pub ruleset even = (even-good, even-bad, even-end, row-there)
