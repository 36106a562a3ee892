-- What stands at a key of an object.
--   at_key                   what a key's value is read as; nothing where it isn't there
--   i32_in                   a whole number from -2^31 to 2^31 - 1
use Rattle.std.specs.Prelude.{ℕ, ℤ, pos, negsuc, int_le, ◌&&◌, if◌then◌else◌, List, Option, Some, None}
use Rattle.serde_json.specs.Data.{Data}
use Rattle.serde_json.specs.Find.{as_i64, as_number, get}
use Rattle.value_json.specs.Fields.{◌>>=◌}

abbrev pub at_key : {A : Type 0} → (Data → Option A) → List ℕ → Data → Option A
at_key read name datum = get name datum >>= read

abbrev pub i32_of : ℤ → Option ℤ
i32_of whole = if int_le (negsuc 2147483647) whole && int_le whole (pos 2147483647) then Some whole else None

abbrev pub i32_in : Data → Option ℤ
i32_in datum = as_number datum >>= as_i64 >>= i32_of
