-- The limits on the size of an array.
--   size_check  what an array of so many rows and columns answers where it is too large, and the limit that it passes
--   limit_text  how a limit is told
use Rattle.std.specs.Prelude.{ℕ, ◌*◌, ◌++◌, if◌then◌else◌, nat_lt, Option, Some, None, List, codes}
use Rattle.std.specs.Fmt.{decimal}
use Rattle.value_core.specs.declared.error.Error.{Error}
use Rattle.value_core.specs.declared.error.Error.TheVariants.{VALUE, ERROR}
use Rattle.position_core.specs.declared.limit.SizeLimit.{SizeLimit}
use Rattle.position_core.specs.declared.limit.SizeLimit.TheVariants.{Columns, Rows, Cells}

abbrev pub size_check : ℕ → ℕ → ℕ → Option (Error × SizeLimit)
size_check rows columns limit =
    if nat_lt 16384 columns then Some (VALUE, Columns)
    else if nat_lt 1048576 rows then Some (VALUE, Rows)
    else if nat_lt limit (rows * columns) then Some (ERROR, Cells limit)
    else None

abbrev pub limit_text : SizeLimit → List ℕ
limit_text Columns = codes "columns exceeds sheet limit of 16384"
limit_text Rows = codes "rows exceeds sheet limit of 1048576"
limit_text (Cells limit) = codes "rows * columns exceeds matrix size limit of " ++ decimal limit
