-- Whether a call has an array to give, and what it answers else.
--   is_zero, is_zero_if  a count of 0; one that is left out is none
--   are_choices          each number names one of so many lines
--   is_line              one row or one column
--   checked              the error of an array that is too large
--   refused              the error of the first check that the numbers and the sizes don't pass
--   counted              a size whose rows and columns a `usize` counts
--   fitted               the error, or the size
use Rattle.std.specs.Prelude.{ℕ, ℤ, ◌^◌, Bool, true, false, ◌&&◌, ◌||◌, if◌then◌else◌, nat_lt, nat_eq, unsigned_abs, List, [], ◌∷◌, Option, Some, None}
use Rattle.std.specs.Option.{option_map, option_map_or}
use Rattle.std.specs.Int.{div_ceil}
use Rattle.value_core.specs.declared.error.Error.{Error}
use Rattle.value_core.specs.declared.error.Error.TheVariants.{VALUE, CALC}
use Rattle.position_core.specs.Axis.{dropped, dropped_if, is_choice}
use Rattle.position_core.specs.Limit.{size_check}
use Rattle.position_core.specs.Sized.{the, cells, reshaped}
use Rattle.position_core.specs.declared.reshape.Size.{Size}
use Rattle.position_core.specs.declared.reshape.Fitted.{Fitted}
use Rattle.position_core.specs.declared.reshape.Fitted.TheVariants.{Size as Fits, Wrong, TooLong}
use Rattle.position_core.specs.declared.reshape.Reshape.{Reshape}
use Rattle.position_core.specs.declared.reshape.Reshape.TheVariants.{Take, DropOff, Expand, Transpose, WrapRows, WrapColumns, ChooseColumns, ChooseRows, Hstack, Vstack}

abbrev pub is_zero : ℤ → Bool
is_zero number = nat_eq (unsigned_abs number) 0

abbrev pub is_zero_if : Option ℤ → Bool
is_zero_if number = option_map_or is_zero number false

abbrev pub are_choices : List ℤ → ℕ → Bool
are_choices [] total = true
are_choices (number ∷ numbers) total = is_choice number total && are_choices numbers total

abbrev pub is_line : Size → Bool
is_line s = nat_eq s.rows 1 || nat_eq s.columns 1

abbrev pub checked : ℕ → ℕ → ℕ → Option Error
checked rows columns limit = option_map (λ found. found.0) (size_check rows columns limit)

abbrev pub refused : Reshape → List Size → ℕ → Option Error
refused (Take rows columns) sizes limit = if is_zero rows || is_zero_if columns then Some CALC else None
refused (DropOff rows columns) sizes limit = if nat_eq (dropped rows (the sizes).rows) 0 || nat_eq (dropped_if columns (the sizes).columns) 0 then Some CALC else None
refused (Expand rows columns) sizes limit = if nat_lt rows (the sizes).rows || nat_lt columns (the sizes).columns then Some VALUE else checked rows columns limit
refused Transpose sizes limit = None
refused (WrapRows count) sizes limit = if is_line (the sizes) then if nat_eq count 0 then Some VALUE else checked (div_ceil (cells (the sizes)) count) count limit else Some VALUE
refused (WrapColumns count) sizes limit = if is_line (the sizes) then if nat_eq count 0 then Some VALUE else checked count (div_ceil (cells (the sizes)) count) limit else Some VALUE
refused (ChooseColumns numbers) sizes limit = if are_choices numbers (the sizes).columns then None else Some VALUE
refused (ChooseRows numbers) sizes limit = if are_choices numbers (the sizes).rows then None else Some VALUE
refused Hstack sizes limit = None
refused Vstack sizes limit = None

abbrev pub counted : Size → Fitted
counted s = if nat_lt s.rows (2 ^ 64) && nat_lt s.columns (2 ^ 64) then Fits s else TooLong

abbrev pub fitted : Reshape → List Size → ℕ → Fitted
fitted reshape sizes limit = option_map_or Wrong (refused reshape sizes limit) (counted (reshaped reshape sizes))
