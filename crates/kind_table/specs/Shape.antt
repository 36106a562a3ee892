-- Shapes of values, as they are known without evaluation.
--   IsAtMost      every value of the first shape is also one of the second
--   IsWellFormed  each dimension is at least 1
--   as_array, as_range  the shape with Range turned into Array, and the other way round
--   combined      what an operator gives: the greater rows and the greater columns, where a side has any
--   reduced       an array that is no larger than one by one is a single value
--   scalar_arguments  the shape over all arguments at once: the greatest rows and the greatest columns among them
use Rattle.std.specs.Prelude.{pos, ◌≤ℤ◌, int_lt, List, ⊤, ◌||◌, if◌then◌else◌, fold}
use Rattle.std.specs.Int.{int_max}
use Rattle.kind_table.specs.declared.static_result.StaticResult.{StaticResult}
use Rattle.kind_table.specs.declared.static_result.StaticResult.TheVariants.{Scalar, Array, Range, Unknown}

abbrev pub IsAtMost : StaticResult → StaticResult → Type 0
IsAtMost Scalar other = ⊤
IsAtMost shape Unknown = ⊤
IsAtMost (Array rows columns) (Array most_rows most_columns) = (rows ≤ℤ most_rows) × (columns ≤ℤ most_columns)
IsAtMost (Array rows columns) (Range most_rows most_columns) = (rows ≤ℤ most_rows) × (columns ≤ℤ most_columns)
IsAtMost (Range rows columns) (Range most_rows most_columns) = (rows ≤ℤ most_rows) × (columns ≤ℤ most_columns)
IsAtMost shape other = ⊥

abbrev pub IsWellFormed : StaticResult → Type 0
IsWellFormed (Array rows columns) = (pos 1 ≤ℤ rows) × (pos 1 ≤ℤ columns)
IsWellFormed (Range rows columns) = (pos 1 ≤ℤ rows) × (pos 1 ≤ℤ columns)
IsWellFormed shape = ⊤

abbrev pub as_array : StaticResult → StaticResult
as_array (Range rows columns) = Array rows columns
as_array shape = shape

abbrev pub as_range : StaticResult → StaticResult
as_range (Array rows columns) = Range rows columns
as_range shape = shape

abbrev pub combined : StaticResult → StaticResult → StaticResult
combined Unknown other = Unknown
combined shape Unknown = Unknown
combined Scalar other = as_array other
combined shape Scalar = as_array shape
combined (Array a b) (Array c d) = Array (int_max a c) (int_max b d)
combined (Array a b) (Range c d) = Array (int_max a c) (int_max b d)
combined (Range a b) (Array c d) = Array (int_max a c) (int_max b d)
combined (Range a b) (Range c d) = Array (int_max a c) (int_max b d)

abbrev pub reduced : StaticResult → StaticResult
reduced (Array rows columns) = if (int_lt (pos 1) rows || int_lt (pos 1) columns) then Array rows columns else Scalar
reduced shape = shape

abbrev pub scalar_arguments : List StaticResult → StaticResult
scalar_arguments shapes = reduced (fold combined Scalar shapes)
