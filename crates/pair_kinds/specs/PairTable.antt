-- A second table, for tests: with it an `@` in either of two places does the same.
--   is_large    whether a shape is unknown or has a dimension above 1
--   pair_table  the table: of two large arguments nothing is known; no call has a value or a unit
use Rattle.std.specs.Prelude.{pos, int_lt, Bool, true, false, ◌||◌, ◌==◌, nat_lt, nat_le, if◌then◌else◌, count_by}
use Rattle.kind_table.specs.declared.signature.Signature.TheVariants as signature
use Rattle.kind_table.specs.declared.static_result.StaticResult.{StaticResult}
use Rattle.kind_table.specs.declared.static_result.StaticResult.TheVariants.{Scalar, Array, Range, Unknown}
use Rattle.kind_table.specs.declared.unit_class.UnitClass.TheVariants.{NoUnit}
use Rattle.kind_table.specs.Table.{Table}
use Rattle.rectangle_core.specs.declared.value.Value.TheVariants.{One}
use Rattle.value_core.specs.declared.array.ArrayNode.TheVariants.{Error as Wrong}
use Rattle.value_core.specs.declared.error.Error.TheVariants.{NIMPL}

abbrev pub is_large : StaticResult → Bool
is_large Scalar = false
is_large (Array rows columns) = int_lt (pos 1) rows || int_lt (pos 1) columns
is_large (Range rows columns) = int_lt (pos 1) rows || int_lt (pos 1) columns
is_large Unknown = true

abbrev pub pair_table : Table
pair_table = record {
  knows = λ id. id == 0;
  signature = λ id count index. if nat_lt index count then signature.Scalar else signature.Error;
  shape = λ id shapes. if nat_le 2 (count_by is_large shapes) then Unknown else Scalar;
  value = λ id values. One (Wrong NIMPL);
  unit_class = λ id. NoUnit;
}
