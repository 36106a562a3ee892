-- The size of what a call gives, by the sizes of its arrays.
--   size                               so many rows and columns
--   the                                the size of the only array
--   total_rows, total_columns          of all the arrays
--   greatest_rows, greatest_columns    of the array that has most
--   cells                              how many elements an array has
--   reshaped                           the size of the answer, where there is one
use Rattle.std.specs.Prelude.{ℕ, ◌+◌, ◌*◌, max, List, [], ◌∷◌, length, slice_index_or}
use Rattle.std.specs.Int.{div_ceil}
use Rattle.position_core.specs.Axis.{taken, taken_if, dropped, dropped_if}
use Rattle.position_core.specs.declared.reshape.Size.{Size}
use Rattle.position_core.specs.declared.reshape.Reshape.{Reshape}
use Rattle.position_core.specs.declared.reshape.Reshape.TheVariants.{Take, DropOff, Expand, Transpose, WrapRows, WrapColumns, ChooseColumns, ChooseRows, Hstack, Vstack}

abbrev pub size : ℕ → ℕ → Size
size rows columns = record { rows = rows; columns = columns }

abbrev pub the : List Size → Size
the sizes = slice_index_or sizes 0 (size 0 0)

abbrev pub total_rows : List Size → ℕ
total_rows [] = 0
total_rows (s ∷ ss) = s.rows + total_rows ss

abbrev pub total_columns : List Size → ℕ
total_columns [] = 0
total_columns (s ∷ ss) = s.columns + total_columns ss

abbrev pub greatest_rows : List Size → ℕ
greatest_rows [] = 0
greatest_rows (s ∷ ss) = max s.rows (greatest_rows ss)

abbrev pub greatest_columns : List Size → ℕ
greatest_columns [] = 0
greatest_columns (s ∷ ss) = max s.columns (greatest_columns ss)

abbrev pub cells : Size → ℕ
cells s = s.rows * s.columns

abbrev pub reshaped : Reshape → List Size → Size
reshaped (Take rows columns) sizes = size (taken rows (the sizes).rows) (taken_if columns (the sizes).columns)
reshaped (DropOff rows columns) sizes = size (dropped rows (the sizes).rows) (dropped_if columns (the sizes).columns)
reshaped (Expand rows columns) sizes = size rows columns
reshaped Transpose sizes = size (the sizes).columns (the sizes).rows
reshaped (WrapRows count) sizes = size (div_ceil (cells (the sizes)) count) count
reshaped (WrapColumns count) sizes = size count (div_ceil (cells (the sizes)) count)
reshaped (ChooseColumns numbers) sizes = size (the sizes).rows (length numbers)
reshaped (ChooseRows numbers) sizes = size (length numbers) (the sizes).columns
reshaped Hstack sizes = size (greatest_rows sizes) (total_columns sizes)
reshaped Vstack sizes = size (total_rows sizes) (greatest_columns sizes)
