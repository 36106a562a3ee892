-- Literals that are rectangles.
--   literal-made    what is made of the rows of a literal is what it comes to
--   literal-there   something is made of them, where they are a rectangle
use Rattle.std.proofs.Common.{◌≡◌, ℕ, ◌≤◌, ◌==◌, nat_le, Bool, true, false, ◌&&◌, if◌then◌else◌, List, [], ◌∷◌, length, Option, Some, None, All, refl, sym, ap, subst, ◌∙◌}
use Rattle.std.specs.List.{list_all}
use Rattle.std.proofs.lemmas.Bool.{eqb-true, leb-true}
use Rattle.std.proofs.lemmas.List.Elements.{All-cons, All-nil}
use Rattle.value_core.specs.declared.array.ArrayNode.{ArrayNode}
use Rattle.value_core.specs.declared.error.Error.TheVariants.{VALUE}
use Rattle.value_core.specs.declared.position.CellReferenceIndex.{CellReferenceIndex}
use Rattle.rectangle_core.specs.Rectangle.{width, IsMadeOf, IsRectangle}
use Rattle.grid_core.specs.declared.calc_result.CalcResult.{CalcResult}
use Rattle.grid_core.specs.declared.calc_result.CalcResult.TheVariants as calc
use Rattle.result_core.specs.Finding.{wrong}
use Rattle.validity_core.specs.Good.{first_length, is_array, is_size}
use Rattle.eval_core.specs.Meaning.{literal_found}

and-left : (a b : Bool) → (a && b) ≡ true → a ≡ true
and-left true b h = refl
and-left false b h = h

and-right : (a b : Bool) → (a && b) ≡ true → b ≡ true
and-right true b h = h
and-right false b h = cc

even-back : (k : ℕ) (rows : List (List ArrayNode)) → list_all (λ row. length row == k) rows ≡ true → All (λ row. length row ≡ k) rows
even-back k [] h = All-nil (λ row. length row ≡ k)
even-back k (row ∷ rows) h = All-cons (λ row. length row ≡ k) row rows
    (eqb-true (length row) k (and-left (length row == k) (list_all (λ row. length row == k) rows) h))
    (even-back k rows (and-right (length row == k) (list_all (λ row. length row == k) rows) h))

first-width : (rows : List (List ArrayNode)) → first_length rows ≡ width rows
first-width [] = refl
first-width (row ∷ rows) = refl

rectangle-back : (rows : List (List ArrayNode)) → is_array rows ≡ true → IsRectangle rows
rectangle-back rows h =
    let sizes = and-left (is_size 1048576 (length rows) && is_size 16384 (first_length rows)) (list_all (λ row. length row == first_length rows) rows) h in
    let even = and-right (is_size 1048576 (length rows) && is_size 16384 (first_length rows)) (list_all (λ row. length row == first_length rows) rows) h in
    let tall = and-left (is_size 1048576 (length rows)) (is_size 16384 (first_length rows)) sizes in
    let wide = and-right (is_size 1048576 (length rows)) (is_size 16384 (first_length rows)) sizes in
    let some_row = and-left (nat_le 1 (length rows)) (nat_le (length rows) 1048576) tall in
    let some_column = and-left (nat_le 1 (first_length rows)) (nat_le (first_length rows) 16384) wide in
    record {
      some_row = leb-true _ _ some_row;
      some_column = subst (λ n. 1 ≤ n) (first-width rows) (leb-true _ _ some_column);
      even = subst (λ n. All (λ row. length row ≡ n) rows) (first-width rows) (even-back (first_length rows) rows even);
    }

pub literal-made : (cell : CellReferenceIndex) (rows grid : List (List ArrayNode)) → is_array rows ≡ true → IsMadeOf rows (Some grid) → calc.Array grid ≡ literal_found cell rows
literal-made cell rows grid e made = ap calc.Array made.0 ∙ sym (ap (λ b. if b then calc.Array rows else wrong cell VALUE) e)

pub literal-there : (rows : List (List ArrayNode)) → is_array rows ≡ true → IsMadeOf rows None → ⊥
literal-there rows e none = none (rectangle-back rows e)

pub ruleset literals = (literal-made, literal-there)
