-- Two arrays below each other.
--   size-rectangle  the size of a rectangle
--   stacked         two rectangles of the same columns, below each other
--   taken-dropped   the rows that are taken and those that are left
use Rattle.std.proofs.Common.{◌≡◌, ℕ, pos, ◌+◌, ◌-◌, ◌<◌, ◌≤◌, ◌⊎◌, inl, inr, min, max, List, [], ◌∷◌, if◌then◌else◌, nat_lt, refl, sym, ap, ap₂, ◌∙◌, arith}
use Rattle.std.proofs.lemmas.Bool.{cases_lt}
use Rattle.value_core.specs.declared.array.ArrayNode.{ArrayNode}
use Rattle.rectangle_core.specs.Rectangle.{rectangle, height, width, element_at, or_blank, IsRectangle}
use Rattle.rectangle_core.proofs.Rectangles.{height-rectangle, width-rectangle, whole}
use Rattle.position_core.specs.Axis as axis
use Rattle.position_core.specs.Position as place
use Rattle.position_core.specs.Sized.{size}
use Rattle.position_core.specs.declared.position.Position.TheVariants.{Part}
use Rattle.array_ops.specs.Reshaped.{picked, size_of, not_available}
use Rattle.array_laws.specs.Law.{taken, dropped, below}
use Rattle.array_laws.proofs.Elements.{at-rectangle, rectangle-same, rectangle-sized, if-lt, if-ge}

below-upper : (r c s d i j : ℕ) → i < r → j < c → place.below (size r c ∷ size s d ∷ []) 0 i j ≡ Part 0 i j
below-upper r c s d i j h k = if-lt i r _ _ h ∙ if-lt j c _ _ k

below-lower : (r c s d i j : ℕ) → r ≤ i → i - r < s → j < d → place.below (size r c ∷ size s d ∷ []) 0 i j ≡ Part 1 (i - r) j
below-lower r c s d i j h k l = if-ge i r _ _ h ∙ (if-lt (i - r) s _ _ k ∙ if-lt j d _ _ l)

pub size-rectangle : (rows columns : ℕ) (f : ℕ → ℕ → ArrayNode) → 1 ≤ rows → size_of (rectangle rows columns f) ≡ size rows columns
size-rectangle rows columns f h = ap₂ size (height-rectangle rows columns f) (width-rectangle rows columns f h)

abbrev stacked_element : ℕ → (ℕ → ℕ → ArrayNode) → (ℕ → ℕ → ArrayNode) → ℕ → ℕ → ArrayNode
stacked_element r f g i j = if nat_lt i r then f i j else g (i - r) j

stacked-at : (r s c : ℕ) (f g : ℕ → ℕ → ArrayNode) (i j : ℕ) → i < r + s → j < c → (i < r) ⊎ (r ≤ i) →
    picked (rectangle r c f ∷ rectangle s c g ∷ []) not_available (place.below (size r c ∷ size s c ∷ []) 0 i j) ≡ stacked_element r f g i j
stacked-at r s c f g i j h k (inl l) =
    ap (picked (rectangle r c f ∷ rectangle s c g ∷ []) not_available) (below-upper r c s c i j l k)
    ∙ (at-rectangle r c f i j l k ∙ sym (if-lt i r (f i j) (g (i - r) j) l))
stacked-at r s c f g i j h k (inr l) =
    let rest : i - r < s = omega arith in
    ap (picked (rectangle r c f ∷ rectangle s c g ∷ []) not_available) (below-lower r c s c i j l rest k)
    ∙ (at-rectangle s c g (i - r) j rest k ∙ sym (if-ge i r (f i j) (g (i - r) j) l))

greater : (c d m n : ℕ) → m ≡ c → n ≡ d → max m (max n 0) ≡ max c d
greater c d m n p q = omega arith

longer : (r s m n : ℕ) → m ≡ r → n ≡ s → m + (n + 0) ≡ r + s
longer r s m n p q = omega arith

same-greater : (c : ℕ) → max c c ≡ c
same-greater c = omega arith

stacked : (r s c : ℕ) (f g : ℕ → ℕ → ArrayNode) → 1 ≤ r → 1 ≤ s → below (rectangle r c f) (rectangle s c g) ≡ rectangle (r + s) c (stacked_element r f g)
stacked r s c f g h k =
    let element : ℕ → ℕ → ArrayNode = λ i j. picked (rectangle r c f ∷ rectangle s c g ∷ []) not_available (place.below (size_of (rectangle r c f) ∷ size_of (rectangle s c g) ∷ []) 0 i j) in
    rectangle-sized (height (rectangle r c f) + (height (rectangle s c g) + 0)) (r + s) (max (width (rectangle r c f)) (max (width (rectangle s c g)) 0)) c element
    (longer r s _ _ (height-rectangle r c f) (height-rectangle s c g))
    (greater c c _ _ (width-rectangle r c f h) (width-rectangle s c g k) ∙ same-greater c)
    ∙ rectangle-same (r + s) c element (stacked_element r f g) (λ i j l m.
    ap₂ (λ u v. picked (rectangle r c f ∷ rectangle s c g ∷ []) not_available (place.below (u ∷ v ∷ []) 0 i j)) (size-rectangle r c f h) (size-rectangle s c g k)
    ∙ stacked-at r s c f g i j l m (cases_lt i r))

at-same : (array : List (List ArrayNode)) (i j k l : ℕ) → i ≡ k → j ≡ l → or_blank (element_at array i j) ≡ or_blank (element_at array k l)
at-same array i j k l p q = ap₂ (λ m n. or_blank (element_at array m n)) p q

begins : (count total i : ℕ) → 0 < count → i + axis.taken_from (pos count) total ≡ i
begins count total i h = grind arith

goes-on : (count total i : ℕ) → count ≤ total → count ≤ i → (i - min count total) + axis.dropped_from (pos count) total ≡ i
goes-on count total i h k = grind arith

abbrev taken_element : ℕ → List (List ArrayNode) → ℕ → ℕ → ArrayNode
taken_element count array i j = or_blank (element_at array (i + axis.taken_from (pos count) (height array)) (j + 0))

abbrev dropped_element : ℕ → List (List ArrayNode) → ℕ → ℕ → ArrayNode
dropped_element count array i j = or_blank (element_at array (i + axis.dropped_from (pos count) (height array)) (j + 0))

stacked-is : (count : ℕ) (array : List (List ArrayNode)) (i j : ℕ) → 0 < count → count < height array → (i < min count (height array)) ⊎ (min count (height array) ≤ i) →
    stacked_element (min count (height array)) (taken_element count array) (dropped_element count array) i j ≡ or_blank (element_at array i j)
stacked-is count array i j h k (inl l) =
    if-lt i (min count (height array)) _ _ l ∙ at-same array _ _ i j (begins count (height array) i h) (omega arith)
stacked-is count array i j h k (inr l) =
    if-ge i (min count (height array)) _ _ l ∙ at-same array _ _ i j (goes-on count (height array) i (omega arith) (omega (arith, l))) (omega arith)

pub taken-dropped : (count : ℕ) (array : List (List ArrayNode)) → IsRectangle array → 0 < count → count < height array → below (taken count array) (dropped count array) ≡ array
taken-dropped count array is h k =
    stacked (min count (height array)) (height array - min count (height array)) (width array) (taken_element count array) (dropped_element count array) (omega arith) (omega arith)
    ∙ (rectangle-sized (min count (height array) + (height array - min count (height array))) (height array) (width array) (width array) _ (omega arith) refl
    ∙ (rectangle-same (height array) (width array) _ (λ i j. or_blank (element_at array i j)) (λ i j l m. stacked-is count array i j h k (cases_lt i (min count (height array))))
    ∙ whole array is))
