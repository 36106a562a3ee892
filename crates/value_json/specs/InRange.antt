-- Numbers in the ranges that the types of their elements_of have.
--
-- `IsU16`, `IsU32`, `IsI32`, `IsI64`  a number in the range of that type
-- `id_in_range`      an id in the range of u32, where there is one
-- `value_in_range`   a value whose number, where it is one, is in the range of i64
-- `rows_in_range`    rows of such values
use Rattle.std.specs.Prelude.{ℕ, ◌<◌, ◌^◌, ℤ, List, Option, IfSome, All, FitsSigned}
use Rattle.std.specs.Int.{w32, w64}
use Rattle.value_core.specs.declared.array.ArrayNode.{ArrayNode}
use Rattle.value_core.specs.declared.array.ArrayNode.TheVariants.{Number}

abbrev pub IsU16 : ℕ → Type 0
IsU16 n = n < 2 ^ 16

abbrev pub IsU32 : ℕ → Type 0
IsU32 n = n < 2 ^ 32

abbrev pub IsI32 : ℤ → Type 0
IsI32 n = FitsSigned w32 n

abbrev pub IsI64 : ℤ → Type 0
IsI64 n = FitsSigned w64 n

abbrev pub id_in_range : Option ℕ → Type 0
id_in_range id = IfSome id IsU32

abbrev pub value_in_range : ArrayNode → Type 0
value_in_range (Number n) = IsI64 n
value_in_range _ = Unit {0}

abbrev pub rows_in_range : List (List ArrayNode) → Type 0
rows_in_range rows = All (λ row. All value_in_range row) rows
