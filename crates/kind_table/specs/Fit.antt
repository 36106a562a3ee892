-- When a value fits a shape.
--   SizeFits   so many rows and columns are no larger than a shape
--   Fits       a value is no larger; one element and a missing argument fit every shape
--   IsResult   a value that may be that of a call: it isn't missing
--   FitsCall   the value of a call fits the call's shape
use Rattle.std.specs.Prelude.{ℕ, ◌≤◌, pos, ◌≤ℤ◌, ⊤}
use Rattle.rectangle_core.specs.Rectangle.{height, width}
use Rattle.rectangle_core.specs.declared.value.Value.{Value}
use Rattle.rectangle_core.specs.declared.value.Value.TheVariants.{One, Missing, Grid}
use Rattle.kind_table.specs.declared.static_result.StaticResult.{StaticResult}
use Rattle.kind_table.specs.declared.static_result.StaticResult.TheVariants.{Scalar, Array, Range, Unknown}

abbrev pub SizeFits : StaticResult → ℕ → ℕ → Type 0
SizeFits Scalar rows columns = (rows ≤ 1) × (columns ≤ 1)
SizeFits (Array most_rows most_columns) rows columns = (pos rows ≤ℤ most_rows) × (pos columns ≤ℤ most_columns)
SizeFits (Range most_rows most_columns) rows columns = (pos rows ≤ℤ most_rows) × (pos columns ≤ℤ most_columns)
SizeFits Unknown rows columns = ⊤

abbrev pub Fits : StaticResult → Value → Type 0
Fits shape (One element) = ⊤
Fits shape Missing = ⊤
Fits shape (Grid rows) = SizeFits shape (height rows) (width rows)

abbrev pub IsResult : Value → Type 0
IsResult (One element) = ⊤
IsResult Missing = ⊥
IsResult (Grid rows) = ⊤

pub record FitsCall (shape : StaticResult) (value : Value) : Type 0 where
  pub is_result : IsResult value
  pub fits : Fits shape value
