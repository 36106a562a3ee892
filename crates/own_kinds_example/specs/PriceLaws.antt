-- The table of prices is lawful: its shapes are the same over all arguments.
--   price_table_is_lawful  the four laws
use Rattle.std.proofs.Common.{◌≡◌, ℕ, ◌≤◌, nat_lt, Bool, true, false, cond, eqb, List, [], ◌∷◌, refl, arith}
use Rattle.std.proofs.lemmas.Bool.Decides.{nat_tests}
use Rattle.kind_table.specs.declared.signature.Signature.TheVariants as signature
use Rattle.kind_table.specs.declared.static_result.StaticResult.TheVariants.{Scalar, Unknown}
use Rattle.kind_table.specs.Shape.{IsAtMost, IsWellFormed}
use Rattle.kind_table.specs.ShapeLaws.{IsAtMost-refl}
use Rattle.kind_table.specs.Table.{IsLawful}
use Rattle.kind_table.specs.Fit.{FitsCall}
use Rattle.rectangle_core.specs.declared.value.Value.{Value}
use Rattle.rectangle_core.specs.declared.value.Value.TheVariants.{One, Missing, Grid}
use Rattle.value_core.specs.declared.error.Error.TheVariants.{NIMPL}
use Rattle.own_kinds_example.specs.PriceTable.{price, price_table, wrong}

well_formed : (known : Bool) → IsWellFormed (cond known Unknown Scalar)
well_formed false = tt
well_formed true = tt

past : (count index : ℕ) → count ≤ index → cond (nat_lt index count) signature.Scalar signature.Error ≡ signature.Error
past count index h = let beyond : nat_lt index count ≡ false = grind (arith, nat_tests) in rw beyond

price_fits : (values : List Value) → FitsCall Unknown (price values)
price_fits [] = record { is_result = tt; fits = tt }
price_fits (One element ∷ []) = record { is_result = tt; fits = tt }
price_fits (Grid rows ∷ []) = record { is_result = tt; fits = tt }
price_fits (Missing ∷ []) = record { is_result = tt; fits = tt }
price_fits (One element ∷ other ∷ others) = record { is_result = tt; fits = tt }
price_fits (Grid rows ∷ other ∷ others) = record { is_result = tt; fits = tt }
price_fits (Missing ∷ other ∷ others) = record { is_result = tt; fits = tt }

value_fits : (known : Bool) (values : List Value) → FitsCall (cond known Unknown Scalar) (cond known (price values) (wrong NIMPL))
value_fits true values = price_fits values
value_fits false values = record { is_result = tt; fits = tt }

pub price_table_is_lawful : IsLawful price_table
price_table_is_lawful = record {
  well_formed = λ id shapes each. well_formed (eqb id 0);
  monotone = λ id lower upper each. IsAtMost-refl (cond (eqb id 0) Unknown Scalar);
  past_count = λ id count index h. past count index h;
  value_fits = λ id shapes values each fit. value_fits (eqb id 0) values;
}
