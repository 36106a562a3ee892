-- What a call that moves elements gives of its arrays. A rectangle is the list of its rows.
--   size_of           the size of an array
--   not_available     the element #N/A
--   part              an element of one of several arrays, by the array's index and its place, from 0
--   picked            the element that a position names
--   reshaped_element  the element at a place of the answer
--   reshaped_grid     the answer, whole
--   answered          the error of the first check that isn't passed, which comes from a cell; else an array
--   reshaped_answer   the error, or the answer
--   plain_answer      the same for a call of one array that has neither a pad nor a limit
use Rattle.std.specs.Prelude.{ℕ, List, [], ◌∷◌, map, Option, Some, None, option_and_then, slice_get}
use Rattle.value_core.specs.declared.array.ArrayNode.{ArrayNode}
use Rattle.value_core.specs.declared.array.ArrayNode.TheVariants.{Error as Wrong}
use Rattle.value_core.specs.declared.error.Error.{Error}
use Rattle.value_core.specs.declared.error.Error.TheVariants.{NA}
use Rattle.value_core.specs.declared.position.CellReferenceIndex.{CellReferenceIndex}
use Rattle.rectangle_core.specs.Rectangle.{rectangle, height, width, element_at, or_blank}
use Rattle.position_core.specs.Sized.{size, reshaped}
use Rattle.position_core.specs.Check.{refused}
use Rattle.position_core.specs.Position.{position}
use Rattle.position_core.specs.declared.reshape.Size.{Size}
use Rattle.position_core.specs.declared.reshape.Reshape.{Reshape}
use Rattle.position_core.specs.declared.position.Position.{Position}
use Rattle.position_core.specs.declared.position.Position.TheVariants.{Part, Pad, NotAvailable}
use Rattle.grid_core.specs.declared.calc_result.CalcResult.{CalcResult}
use Rattle.grid_core.specs.declared.calc_result.CalcResult.TheVariants.{Error as Failed, Array}

abbrev pub size_of : List (List ArrayNode) → Size
size_of rows = size (height rows) (width rows)

abbrev pub not_available : ArrayNode
not_available = Wrong NA

abbrev pub part : List (List (List ArrayNode)) → ℕ → ℕ → ℕ → Option ArrayNode
part arrays index i j = option_and_then (λ rows. element_at rows i j) (slice_get arrays index)

abbrev pub picked : List (List (List ArrayNode)) → ArrayNode → Position → ArrayNode
picked arrays pad (Part index row column) = or_blank (part arrays index row column)
picked arrays pad Pad = pad
picked arrays pad NotAvailable = not_available

abbrev pub reshaped_element : Reshape → List (List (List ArrayNode)) → ArrayNode → ℕ → ℕ → ArrayNode
reshaped_element reshape arrays pad i j = picked arrays pad (position reshape (map size_of arrays) i j)

abbrev pub reshaped_grid : Reshape → List (List (List ArrayNode)) → ArrayNode → List (List ArrayNode)
reshaped_grid reshape arrays pad =
    let answer = reshaped reshape (map size_of arrays) in
    rectangle answer.rows answer.columns (reshaped_element reshape arrays pad)

abbrev pub answered : Option Error → CellReferenceIndex → List (List ArrayNode) → CalcResult
answered (Some error) cell array = Failed error cell
answered None cell array = Array array

abbrev pub reshaped_answer : Reshape → List (List (List ArrayNode)) → ArrayNode → ℕ → CellReferenceIndex → CalcResult
reshaped_answer reshape arrays pad limit cell = answered (refused reshape (map size_of arrays) limit) cell (reshaped_grid reshape arrays pad)

abbrev pub plain_answer : Reshape → List (List ArrayNode) → CellReferenceIndex → CalcResult
plain_answer reshape array cell = reshaped_answer reshape (array ∷ []) not_available 16777216 cell
