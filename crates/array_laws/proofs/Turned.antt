-- What TRANSPOSE gives.
--   transposed-rectangle  of a rectangle by its elements
--   transposed-twice      twice
--   wrapped-turned        of elements in rows
use Rattle.std.proofs.Common.{◌≡◌, ℕ, zero, suc, ◌+◌, ◌*◌, ◌/◌, ◌%◌, ◌<◌, ◌≤◌, min, List, [], ◌∷◌, None, sym, ◌∙◌, arith}
use Rattle.std.proofs.Math.Nat.{mul-pos}
use Rattle.std.proofs.lemmas.Grind.{div_ceil_times}
use Rattle.std.specs.Int.{div_ceil}
use Rattle.value_core.specs.declared.array.ArrayNode.{ArrayNode}
use Rattle.rectangle_core.specs.Rectangle.{rectangle, height, width, element_at, or_blank, IsRectangle}
use Rattle.rectangle_core.proofs.Rectangles.{height-rectangle, width-rectangle, whole}
use Rattle.position_core.specs.Check.{refused}
use Rattle.position_core.specs.Position.{wrapped}
use Rattle.position_core.specs.Sized.{cells}
use Rattle.position_core.specs.declared.reshape.Size.{Size}
use Rattle.position_core.specs.declared.reshape.Reshape.TheVariants.{WrapRows}
use Rattle.array_ops.specs.Reshaped.{picked, size_of}
use Rattle.array_laws.specs.Law.{transposed, in_rows, in_columns, IsWrapped}
use Rattle.array_laws.proofs.Elements.{at-rectangle, rectangle-same, rectangle-sized}

pub transposed-rectangle : (rows columns : ℕ) (f : ℕ → ℕ → ArrayNode) → 1 ≤ rows → transposed (rectangle rows columns f) ≡ rectangle columns rows (λ i j. f j i)
transposed-rectangle rows columns f h =
    let element : ℕ → ℕ → ArrayNode = λ i j. or_blank (element_at (rectangle rows columns f) j i) in
    rectangle-sized (width (rectangle rows columns f)) columns (height (rectangle rows columns f)) rows element (width-rectangle rows columns f h) (height-rectangle rows columns f)
    ∙ rectangle-same columns rows element (λ i j. f j i) (λ i j k l. at-rectangle rows columns f j i l k)

pub transposed-twice : (array : List (List ArrayNode)) → IsRectangle array → transposed (transposed array) ≡ array
transposed-twice array is =
    transposed-rectangle (width array) (height array) (λ i j. or_blank (element_at array j i)) is.some_column ∙ whole array is

some-factor : (q k n : ℕ) → 0 < n → n ≤ q * k → 1 ≤ q
some-factor zero k n h l = absurd (omega (arith, l))
some-factor (suc q) k n h l = omega arith

some-rounded : (n k : ℕ) → 0 < n → 0 < k → 1 ≤ div_ceil n k
some-rounded n k h l = some-factor (n / k + min 1 (n % k)) k n h (div_ceil_times n k l).0

some-count : (count limit : ℕ) (s : Size) → refused (WrapRows count) (s ∷ []) limit ≡ None → 0 < count
some-count zero limit s e = grind arith
some-count (suc count) limit s e = omega arith

pub wrapped-turned : (count limit : ℕ) (pad : ArrayNode) (array : List (List ArrayNode)) → IsRectangle array → IsWrapped count limit array → in_columns count pad array ≡ transposed (in_rows count pad array)
wrapped-turned count limit pad array is wraps =
    let some : 0 < height array * width array = mul-pos (omega (arith, is.some_row)) (omega (arith, is.some_column)) in
    sym (transposed-rectangle (div_ceil (cells (size_of array)) count) count (λ i j. picked (array ∷ []) pad (wrapped (size_of array) (i * count + j)))
    (some-rounded (height array * width array) count some (some-count count limit (size_of array) wraps.in_rows)))
