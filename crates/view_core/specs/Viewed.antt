-- One element of a formula's value.
--   value_at        the element at a row and a column, from 1; none outside
--   element_count   how many elements a rectangle has
--   Judges          an answer, or want of memory, where no place of the formula is bad; else the first bad one
use Rattle.std.specs.Prelude.{◌≡◌, ℕ, zero, suc, ◌*◌, List, Option, Some, None, Result, Ok, Err}
use Rattle.value_core.specs.declared.array.ArrayNode.{ArrayNode}
use Rattle.rectangle_core.specs.Rectangle.{element_at, height, width}
use Rattle.validity_core.specs.declared.place.Place.{Place}
use Rattle.eval_core.specs.declared.fault.Fault.{Fault}
use Rattle.eval_core.specs.declared.fault.Fault.TheVariants.{BadRequest, Memory}

abbrev pub value_at : List (List ArrayNode) → ℕ → ℕ → Option ArrayNode
value_at rows zero column = None
value_at rows (suc i) zero = None
value_at rows (suc i) (suc j) = element_at rows i j

abbrev pub element_count : List (List ArrayNode) → ℕ
element_count rows = height rows * width rows

abbrev pub Judges : {X : Type 0} → Result X Fault → Option Place → Type 0
Judges (Ok answer) bad = bad ≡ None
Judges (Err (BadRequest place)) bad = bad ≡ Some place
Judges (Err Memory) bad = bad ≡ None
