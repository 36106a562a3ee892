-- Array literals that are rectangles.
--   literal-rectangle   an array literal is a rectangle
use Rattle.std.proofs.Common.{◌≡◌, ℕ, ◌≤◌, ◌==◌, true, List, [], ◌∷◌, length, All, refl, subst}
use Rattle.std.specs.List.{list_all}
use Rattle.std.proofs.lemmas.Bool.{and_parts, eqb-true, leb-true}
use Rattle.std.proofs.lemmas.List.Elements.{All-cons, All-nil}
use Rattle.value_core.specs.declared.array.ArrayNode.{ArrayNode}
use Rattle.rectangle_core.specs.Rectangle.{width, IsRectangle}
use Rattle.validity_core.specs.Good.{first_length, is_array}

even-back : (k : ℕ) (rows : List (List ArrayNode)) → list_all (λ row. length row == k) rows ≡ true → All (λ row. length row ≡ k) rows
even-back k [] h = All-nil (λ row. length row ≡ k)
even-back k (row ∷ rows) h =
    let parts = and_parts (length row == k) (list_all (λ row. length row == k) rows) h in
    All-cons (λ row. length row ≡ k) row rows (eqb-true (length row) k parts.0) (even-back k rows parts.1)

first-width : (rows : List (List ArrayNode)) → first_length rows ≡ width rows
first-width [] = refl
first-width (row ∷ rows) = refl

pub literal-rectangle : (rows : List (List ArrayNode)) → is_array rows ≡ true → IsRectangle rows
literal-rectangle rows h =
    let all = and_parts _ _ h in
    let sizes = and_parts _ _ all.0 in
    let some_row = and_parts _ _ sizes.0 in
    let some_column = and_parts _ _ sizes.1 in
    record {
      some_row = leb-true 1 (length rows) some_row.0;
      some_column = subst (λ n. 1 ≤ n) (first-width rows) (leb-true 1 (first_length rows) some_column.0);
      even = subst (λ n. All (λ row. length row ≡ n) rows) (first-width rows) (even-back (first_length rows) rows all.1);
    }
