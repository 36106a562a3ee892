-- The table that comes with this crate: the kinds that have no rules of their own.
--   table_of     what a list of kinds says, which are numbered from 0: of a number past it, nothing but one value, #NIMPL!
--   fits_pattern whether the value of a kind has the sizes that its pattern of shapes speaks of
--   kinds        the kinds in their order, as the rows of the program's table in src/table.rt say
--   crate_table  their table
use Rattle.std.specs.Prelude.{nat_lt, Bool, true, false, if◌then◌else◌, List, length, slice_get}
use Rattle.std.specs.Option.{option_map_or}
use Rattle.kind_table.specs.declared.kind.Kind.{Kind}
use Rattle.kind_table.specs.declared.table.TheConstants.{KINDS}
use Rattle.kind_table.specs.declared.signature.Signature.TheVariants.{Error}
use Rattle.kind_table.specs.declared.static_result.StaticResult.TheVariants.{Scalar}
use Rattle.kind_table.specs.declared.shape_pattern.ShapePattern.{ShapePattern}
use Rattle.kind_table.specs.declared.shape_pattern.ShapePattern.TheVariants as pattern
use Rattle.kind_table.specs.declared.unit_class.UnitClass.TheVariants.{NoUnit}
use Rattle.kind_values.specs.KindValue.{kind_value}
use Rattle.kind_values.specs.Size.{keeps_sizes}
use Rattle.kind_values.specs.declared.value_rule.ValueRule.TheVariants.{NotImplemented}
use Rattle.kind_table.specs.Pattern.{signature_by}
use Rattle.kind_table.specs.ShapePattern.{shape_by}
use Rattle.kind_table.specs.Table.{Table}

abbrev pub table_of : List Kind → Table
table_of kinds = record {
  knows = λ id. nat_lt id (length kinds);
  signature = λ id count index. option_map_or (λ (kind : Kind). signature_by kind.signature count index) (slice_get kinds id) Error;
  shape = λ id shapes. option_map_or (λ (kind : Kind). shape_by kind.shape shapes) (slice_get kinds id) Scalar;
  value = λ id values. option_map_or (λ (kind : Kind). kind_value kind.value values) (slice_get kinds id) (kind_value NotImplemented values);
  unit_class = λ id. option_map_or (λ (kind : Kind). kind.unit_class) (slice_get kinds id) NoUnit;
}

unfoldable pub kinds : List Kind
kinds = KINDS

abbrev pub crate_table : Table
crate_table = table_of kinds

abbrev pub is_scalar_arguments : ShapePattern → Bool
is_scalar_arguments pattern.ScalarArguments = true
is_scalar_arguments other = false

abbrev pub fits_pattern : Kind → Bool
fits_pattern kind = if keeps_sizes kind.value then is_scalar_arguments kind.shape else true
