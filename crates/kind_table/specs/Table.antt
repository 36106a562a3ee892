-- A table of kinds by number, apart from the program.
--   Table     which numbers it knows; the signature of an argument, by the number, the count of arguments and the
--             argument's place from 0; the shape of a call, by the number and the shapes of the arguments; its value, by the
--             number and the values of the arguments; the class of its unit
--   IsLawful  what every table keeps, for each number, known or not
use Rattle.std.specs.Prelude.{◌≡◌, ℕ, ◌≤◌, Bool, List, All}
use Rattle.std.specs.List.{AllZip}
use Rattle.kind_table.specs.declared.signature.Signature.{Signature}
use Rattle.kind_table.specs.declared.signature.Signature.TheVariants.{Error}
use Rattle.kind_table.specs.declared.static_result.StaticResult.{StaticResult}
use Rattle.kind_table.specs.declared.unit_class.UnitClass.{UnitClass}
use Rattle.kind_table.specs.Fit.{Fits, FitsCall}
use Rattle.kind_table.specs.Shape.{IsAtMost, IsWellFormed}
use Rattle.rectangle_core.specs.declared.value.Value.{Value}

pub record Table : Type 0 where
  pub knows : ℕ → Bool
  pub signature : ℕ → ℕ → ℕ → Signature
  pub shape : ℕ → List StaticResult → StaticResult
  pub value : ℕ → List Value → Value
  pub unit_class : ℕ → UnitClass

pub record IsLawful (table : Table) : Type 0 where
  -- from well-formed arguments comes a well-formed shape
  pub well_formed : (id : ℕ) (shapes : List StaticResult) → All IsWellFormed shapes → IsWellFormed (table.shape id shapes)
  -- as many arguments, each at most the other's, give a shape that is at most the other's
  pub monotone : (id : ℕ) (lower upper : List StaticResult) → AllZip IsAtMost lower upper → IsAtMost (table.shape id lower) (table.shape id upper)
  -- no call takes an argument past its count
  pub past_count : (id count index : ℕ) → count ≤ index → table.signature id count index ≡ Error
  -- from well-formed shapes, and values that fit them, comes a value that fits the call's shape and isn't missing
  pub value_fits : (id : ℕ) (shapes : List StaticResult) (values : List Value) → All IsWellFormed shapes → AllZip Fits shapes values → FitsCall (table.shape id shapes) (table.value id values)
