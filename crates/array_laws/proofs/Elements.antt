-- Rectangles by their elements.
--   at-rectangle    the element at a place
--   rectangle-same  two of one size are one where their elements are
--   rectangle-sized the same rectangle by equal sizes
--   if-lt, if-ge    a choice by the order of two numbers
use Rattle.std.proofs.Common.{◌≡◌, ℕ, ◌<◌, ◌≤◌, [], Some, option_and_then, slice_get, ap, ap₂, ◌∙◌, arith, if◌then◌else◌, nat_lt}
use Rattle.std.proofs.lemmas.Bool.{cond-true, cond-false, lt-ltb, le-ltb}
use Rattle.std.proofs.lemmas.List.FromFn.{length-map-range_with_len, get_or-map-range_with_len, fill_by_all}
use Rattle.std.proofs.lemmas.Option.{slice_get-get_or}
use Rattle.value_core.specs.declared.array.ArrayNode.{ArrayNode}
use Rattle.value_core.specs.declared.array.ArrayNode.TheVariants.{Empty}
use Rattle.rectangle_core.specs.Rectangle.{tabulate, rectangle, element_at, or_blank}

slice_get-tabulate : {X : Type 0} (n : ℕ) (f : ℕ → X) (i : ℕ) (d : X) → i < n → slice_get (tabulate n f) i ≡ Some (f i)
slice_get-tabulate n f i d h =
    slice_get-get_or (tabulate n f) i d (omega (arith, length-map-range_with_len f 0 n))
    ∙ ap Some (get_or-map-range_with_len f 0 n i i d h (omega arith))

pub at-rectangle : (rows columns : ℕ) (f : ℕ → ℕ → ArrayNode) (i j : ℕ) → i < rows → j < columns → or_blank (element_at (rectangle rows columns f) i j) ≡ f i j
at-rectangle rows columns f i j h k =
    ap (λ row. or_blank (option_and_then (λ r. slice_get r j) row)) (slice_get-tabulate rows (λ i. tabulate columns (f i)) i [] h)
    ∙ ap or_blank (slice_get-tabulate columns (f i) j Empty k)

tabulate-same : {X : Type 0} (n : ℕ) (f g : ℕ → X) (d : X) → ((k : ℕ) → k < n → f k ≡ g k) → tabulate n f ≡ tabulate n g
tabulate-same n f g d e = fill_by_all g (tabulate n f) n d (length-map-range_with_len f 0 n) (λ k h. get_or-map-range_with_len f 0 n k k d h (omega arith) ∙ e k h)

pub rectangle-same : (rows columns : ℕ) (f g : ℕ → ℕ → ArrayNode) → ((i j : ℕ) → i < rows → j < columns → f i j ≡ g i j) → rectangle rows columns f ≡ rectangle rows columns g
rectangle-same rows columns f g e =
    tabulate-same rows (λ i. tabulate columns (f i)) (λ i. tabulate columns (g i)) [] (λ i h. tabulate-same columns (f i) (g i) Empty (λ j k. e i j h k))

pub rectangle-sized : (r s c d : ℕ) (f : ℕ → ℕ → ArrayNode) → r ≡ s → c ≡ d → rectangle r c f ≡ rectangle s d f
rectangle-sized r s c d f p q = ap₂ (λ m n. rectangle m n f) p q

pub if-lt : {X : Type 0} (m n : ℕ) (x y : X) → m < n → (if nat_lt m n then x else y) ≡ x
if-lt m n x y h = cond-true (nat_lt m n) x y (lt-ltb m n h)

pub if-ge : {X : Type 0} (m n : ℕ) (x y : X) → n ≤ m → (if nat_lt m n then x else y) ≡ y
if-ge m n x y h = cond-false (nat_lt m n) x y (le-ltb m n h)
