-- Laws of the calls that move the elements of arrays.
--   transposed           TRANSPOSE
--   taken, dropped       TAKE and DROP of so many rows
--   in_rows, in_columns  WRAPROWS and WRAPCOLS
--   beside, below        HSTACK and VSTACK of two arrays
--   IsWrapped            a count is refused neither in rows nor in columns, under a limit
--   TransposesBack, WrapsAlike, DropsWhatIsNotTaken, StacksTurnOver   the laws
use Rattle.std.specs.Prelude.{◌≡◌, ℕ, pos, ◌<◌, List, [], ◌∷◌, None}
use Rattle.value_core.specs.declared.array.ArrayNode.{ArrayNode}
use Rattle.rectangle_core.specs.Rectangle.{height, IsRectangle}
use Rattle.position_core.specs.Check.{refused}
use Rattle.position_core.specs.declared.reshape.Reshape.TheVariants.{Take, DropOff, Transpose, WrapRows, WrapColumns, Hstack, Vstack}
use Rattle.array_ops.specs.Reshaped.{not_available, reshaped_grid, size_of}

abbrev pub transposed : List (List ArrayNode) → List (List ArrayNode)
transposed array = reshaped_grid Transpose (array ∷ []) not_available

abbrev pub taken : ℕ → List (List ArrayNode) → List (List ArrayNode)
taken count array = reshaped_grid (Take (pos count) None) (array ∷ []) not_available

abbrev pub dropped : ℕ → List (List ArrayNode) → List (List ArrayNode)
dropped count array = reshaped_grid (DropOff (pos count) None) (array ∷ []) not_available

abbrev pub in_rows : ℕ → ArrayNode → List (List ArrayNode) → List (List ArrayNode)
in_rows count pad array = reshaped_grid (WrapRows count) (array ∷ []) pad

abbrev pub in_columns : ℕ → ArrayNode → List (List ArrayNode) → List (List ArrayNode)
in_columns count pad array = reshaped_grid (WrapColumns count) (array ∷ []) pad

abbrev pub beside : List (List ArrayNode) → List (List ArrayNode) → List (List ArrayNode)
beside left right = reshaped_grid Hstack (left ∷ right ∷ []) not_available

abbrev pub below : List (List ArrayNode) → List (List ArrayNode) → List (List ArrayNode)
below upper lower = reshaped_grid Vstack (upper ∷ lower ∷ []) not_available

pub record IsWrapped (count limit : ℕ) (array : List (List ArrayNode)) : Type 0 where
  pub in_rows : refused (WrapRows count) (size_of array ∷ []) limit ≡ None
  pub in_columns : refused (WrapColumns count) (size_of array ∷ []) limit ≡ None

abbrev pub TransposesBack : Type 0
TransposesBack = (array : List (List ArrayNode)) → IsRectangle array → transposed (transposed array) ≡ array

abbrev pub WrapsAlike : Type 0
WrapsAlike = (count limit : ℕ) (pad : ArrayNode) (array : List (List ArrayNode)) → IsRectangle array → IsWrapped count limit array → in_columns count pad array ≡ transposed (in_rows count pad array)

abbrev pub DropsWhatIsNotTaken : Type 0
DropsWhatIsNotTaken = (count : ℕ) (array : List (List ArrayNode)) → IsRectangle array → 0 < count → count < height array → below (taken count array) (dropped count array) ≡ array

abbrev pub StacksTurnOver : Type 0
StacksTurnOver = (left right : List (List ArrayNode)) → IsRectangle left → IsRectangle right → beside left right ≡ transposed (below (transposed left) (transposed right))
