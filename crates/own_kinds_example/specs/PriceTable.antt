-- The table of kinds of a book of prices, apart from the program.
--   price        the prices of a call: those of its one argument, 0 where it is missing
--   price_table  it knows the number 0 alone: a call takes each argument as one value, and gives a range whose size is not known,
--                in the currency of the locale
use Rattle.std.specs.Prelude.{◌==◌, nat_lt, pos, if◌then◌else◌, List, [], ◌∷◌}
use Rattle.value_core.specs.declared.array.ArrayNode.TheVariants.{Number, Error as Wrong}
use Rattle.value_core.specs.declared.error.Error.{Error}
use Rattle.value_core.specs.declared.error.Error.TheVariants.{ERROR, NIMPL}
use Rattle.rectangle_core.specs.declared.value.Value.{Value}
use Rattle.rectangle_core.specs.declared.value.Value.TheVariants.{One, Missing, Grid}
use Rattle.kind_table.specs.declared.unit_class.UnitClass.TheVariants.{Currency, NoUnit}
use Rattle.kind_table.specs.declared.signature.Signature.TheVariants as signature
use Rattle.kind_table.specs.declared.static_result.StaticResult.TheVariants as static
use Rattle.kind_table.specs.Table.{Table}

abbrev pub wrong : Error → Value
wrong e = One (Wrong e)

abbrev pub price : List Value → Value
price (One element ∷ []) = One element
price (Grid rows ∷ []) = Grid rows
price (Missing ∷ []) = One (Number (pos 0))
price other = wrong ERROR

abbrev pub price_table : Table
price_table = record {
  knows = λ id. id == 0;
  signature = λ id count index. if nat_lt index count then signature.Scalar else signature.Error;
  shape = λ id shapes. if (id == 0) then static.Unknown else static.Scalar;
  value = λ id values. if (id == 0) then price values else wrong NIMPL;
  unit_class = λ id. if (id == 0) then Currency else NoUnit;
}
