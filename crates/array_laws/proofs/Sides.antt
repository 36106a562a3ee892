-- Two arrays beside each other, and their transposes below each other.
--   turned-part   one place of the one and of the other
--   stacks-turn   the whole
use Rattle.std.proofs.Common.{◌≡◌, ℕ, ◌+◌, ◌-◌, ◌<◌, ◌≤◌, ◌⊎◌, inl, inr, max, List, [], ◌∷◌, sym, ap, ap₂, ◌∙◌, arith}
use Rattle.std.proofs.lemmas.Bool.{cases_lt}
use Rattle.value_core.specs.declared.array.ArrayNode.{ArrayNode}
use Rattle.rectangle_core.specs.Rectangle.{height, width, element_at, or_blank, IsRectangle}
use Rattle.rectangle_core.proofs.Rectangles.{height-rectangle, width-rectangle}
use Rattle.position_core.specs.Position as place
use Rattle.position_core.specs.Sized.{size}
use Rattle.array_ops.specs.Reshaped.{picked, size_of, not_available}
use Rattle.array_laws.specs.Law.{transposed, beside, below}
use Rattle.array_laws.proofs.Elements.{at-rectangle, rectangle-same, rectangle-sized, if-lt, if-ge}
use Rattle.array_laws.proofs.Turned.{transposed-rectangle}
use Rattle.array_laws.proofs.Stacked.{size-rectangle}

abbrev turned : List (List ArrayNode) → ℕ → ℕ → ArrayNode
turned array i j = or_blank (element_at array j i)

turned-at : (array : List (List ArrayNode)) (i j : ℕ) → i < height array → j < width array → or_blank (element_at array i j) ≡ or_blank (element_at (transposed array) j i)
turned-at array i j h k = sym (at-rectangle (width array) (height array) (turned array) j i k h)

-- one array, or what is left of both
turned-part : (left right : List (List ArrayNode)) (i j : ℕ) → j < width left + width right → (j < width left) ⊎ (width left ≤ j) →
    (i < height left) ⊎ (height left ≤ i) → (i < height right) ⊎ (height right ≤ i) →
    picked (left ∷ right ∷ []) not_available (place.beside (size_of left ∷ size_of right ∷ []) 0 i j)
    ≡ picked (transposed left ∷ transposed right ∷ []) not_available (place.below (size (width left) (height left) ∷ size (width right) (height right) ∷ []) 0 j i)
turned-part left right i j h (inl k) (inl l) last =
    ap (picked (left ∷ right ∷ []) not_available) (if-lt j (width left) _ _ k ∙ if-lt i (height left) _ _ l)
    ∙ (turned-at left i j l k
    ∙ sym (ap (picked (transposed left ∷ transposed right ∷ []) not_available) (if-lt j (width left) _ _ k ∙ if-lt i (height left) _ _ l)))
turned-part left right i j h (inl k) (inr l) last =
    ap (picked (left ∷ right ∷ []) not_available) (if-lt j (width left) _ _ k ∙ if-ge i (height left) _ _ l)
    ∙ sym (ap (picked (transposed left ∷ transposed right ∷ []) not_available) (if-lt j (width left) _ _ k ∙ if-ge i (height left) _ _ l))
turned-part left right i j h (inr k) first (inl l) =
    let rest : j - width left < width right = omega arith in
    ap (picked (left ∷ right ∷ []) not_available) (if-ge j (width left) _ _ k ∙ (if-lt (j - width left) (width right) _ _ rest ∙ if-lt i (height right) _ _ l))
    ∙ (turned-at right i (j - width left) l rest
    ∙ sym (ap (picked (transposed left ∷ transposed right ∷ []) not_available) (if-ge j (width left) _ _ k ∙ (if-lt (j - width left) (width right) _ _ rest ∙ if-lt i (height right) _ _ l))))
turned-part left right i j h (inr k) first (inr l) =
    let rest : j - width left < width right = omega arith in
    ap (picked (left ∷ right ∷ []) not_available) (if-ge j (width left) _ _ k ∙ (if-lt (j - width left) (width right) _ _ rest ∙ if-ge i (height right) _ _ l))
    ∙ sym (ap (picked (transposed left ∷ transposed right ∷ []) not_available) (if-ge j (width left) _ _ k ∙ (if-lt (j - width left) (width right) _ _ rest ∙ if-ge i (height right) _ _ l)))

abbrev below_element : List (List ArrayNode) → List (List ArrayNode) → ℕ → ℕ → ArrayNode
below_element upper lower i j = picked (upper ∷ lower ∷ []) not_available (place.below (size_of upper ∷ size_of lower ∷ []) 0 i j)

abbrev beside_element : List (List ArrayNode) → List (List ArrayNode) → ℕ → ℕ → ArrayNode
beside_element left right i j = picked (left ∷ right ∷ []) not_available (place.beside (size_of left ∷ size_of right ∷ []) 0 i j)

pub stacks-turn : (left right : List (List ArrayNode)) → IsRectangle left → IsRectangle right → beside left right ≡ transposed (below (transposed left) (transposed right))
stacks-turn left right is also =
    let tall = height-rectangle (width left) (height left) (turned left) in
    let taller = height-rectangle (width right) (height right) (turned right) in
    let wide = width-rectangle (width left) (height left) (turned left) is.some_column in
    let wider = width-rectangle (width right) (height right) (turned right) also.some_column in
    rectangle-same (max (height left) (max (height right) 0)) (width left + (width right + 0)) (beside_element left right) (λ i j. below_element (transposed left) (transposed right) j i) (λ i j h k.
    turned-part left right i j (omega arith) (cases_lt j (width left)) (cases_lt i (height left)) (cases_lt i (height right))
    ∙ sym (ap₂ (λ u v. picked (transposed left ∷ transposed right ∷ []) not_available (place.below (u ∷ v ∷ []) 0 j i))
    (size-rectangle (width left) (height left) (turned left) is.some_column) (size-rectangle (width right) (height right) (turned right) also.some_column)))
    ∙ (sym (rectangle-sized (max (width (transposed left)) (max (width (transposed right)) 0)) (max (height left) (max (height right) 0)) (height (transposed left) + (height (transposed right) + 0)) (width left + (width right + 0)) (λ i j. below_element (transposed left) (transposed right) j i)
    (ap₂ (λ m n. max m (max n 0)) wide wider) (ap₂ (λ m n. m + (n + 0)) tall taller))
    ∙ sym (transposed-rectangle (height (transposed left) + (height (transposed right) + 0)) (max (width (transposed left)) (max (width (transposed right)) 0)) (below_element (transposed left) (transposed right))
    (omega (arith, tall, is.some_column))))
