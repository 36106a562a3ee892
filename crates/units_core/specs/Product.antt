-- The unit of a sum and of a product, by those of the sides.
--   sum_unit         the only unit that the sides have; of two the one with more digits, the left one where both have as many
--   fits, fits_row   whether a side is what a row of the table says, and both are
--   products         the rows of the program's table in src/product.rt, in their order
--   outcome_by       the one of a product, or the other, of a quotient; outcome_in, as a row says it
--   outcomes         which unit a product has, and which a quotient, by what the sides have: the first line that fits
--   outcome_of       the one or the other
--   fitting_row      the first row of the program's table that fits; it says the same
--   finer            of two units the one with more digits, the right one where both have as many
--   finer_percentage the left percentage where it has more digits; else the right one where it has two or more; else one of two
--   rounded_money    an amount of money in the same currency, with two digits, thousands set apart
--   fine_money       the same amount where it has two digits or more, else a rounded one
--   outcome_unit     the unit by such a word
--   product_unit     the unit of a product or a quotient
use Rattle.std.specs.Prelude.{pos, Bool, true, false, ◌&&◌, if◌then◌else◌, List, ◌++◌, codes, Option, Some, None}
use Rattle.std.specs.Int.RustNames.{int_lt}
use Rattle.std.specs.List.{find}
use Rattle.value_core.specs.declared.operator.OpProduct.{OpProduct}
use Rattle.value_core.specs.declared.operator.OpProduct.TheVariants.{Times, Divide}
use Rattle.units_core.specs.Class.{percentage}
use Rattle.units_core.specs.Part.{precision_of}
use Rattle.units_core.specs.declared.units.Units.{Units}
use Rattle.units_core.specs.declared.units.Units.TheVariants as unit
use Rattle.units_core.specs.declared.side.Side.{Side}
use Rattle.units_core.specs.declared.side.Side.TheVariants as side
use Rattle.units_core.specs.declared.outcome.Outcome.{Outcome}
use Rattle.units_core.specs.declared.outcome.Outcome.TheVariants as outcome
use Rattle.units_core.specs.declared.product.Product.{Product}
use Rattle.units_core.specs.declared.product.TheConstants.{PRODUCTS}

abbrev pub sum_unit : Option Units → Option Units → Option Units
sum_unit (Some left) (Some right) = if int_lt (precision_of left) (precision_of right) then Some right else Some left
sum_unit None right = right
sum_unit (Some left) None = Some left

abbrev pub fits : Side → Option Units → Bool
fits side.Number (Some (unit.Number separator precision num_fmt)) = true
fits side.Currency (Some (unit.Currency separator precision num_fmt currency)) = true
fits side.Percentage (Some (unit.Percentage separator precision num_fmt)) = true
fits side.Any (Some some_unit) = true
fits side.Without None = true
fits side.AnyOrNone some_unit = true
fits other some_unit = false

abbrev pub fits_row : Option Units → Option Units → Product → Bool
fits_row left right row = fits row.left left && fits row.right right

unfoldable pub products : List Product
products = PRODUCTS

abbrev pub outcome_by : OpProduct → Outcome × Outcome → Outcome
outcome_by Times both = both.0
outcome_by Divide both = both.1

abbrev pub outcome_in : OpProduct → Product → Outcome
outcome_in kind row = outcome_by kind (row.times, row.divide)

abbrev pub outcomes : Option Units → Option Units → Outcome × Outcome
outcomes (Some (unit.Percentage s p f)) (Some (unit.Percentage t q g)) = (outcome.FinerPercentage, outcome.FinerPercentage)
outcomes (Some (unit.Currency s p f c)) (Some (unit.Percentage t q g)) = (outcome.LeftMoney, outcome.Nothing)
outcomes (Some (unit.Percentage s p f)) (Some (unit.Currency t q g d)) = (outcome.RightMoney, outcome.Nothing)
outcomes (Some (unit.Percentage s p f)) right = (outcome.Right, outcome.Right)
outcomes left (Some (unit.Percentage t q g)) = (outcome.Left, outcome.Nothing)
outcomes None right = (outcome.Right, outcome.Nothing)
outcomes left None = (outcome.Left, outcome.Left)
outcomes (Some (unit.Number s p f)) (Some (unit.Number t q g)) = (outcome.Finer, outcome.Finer)
outcomes (Some (unit.Number s p f)) right = (outcome.Right, outcome.Nothing)
outcomes left (Some (unit.Number t q g)) = (outcome.Left, outcome.Left)
outcomes left right = (outcome.Nothing, outcome.Nothing)

abbrev pub outcome_of : OpProduct → Option Units → Option Units → Outcome
outcome_of kind left right = outcome_by kind (outcomes left right)

abbrev pub fitting_row : Option Units → Option Units → Option Product
fitting_row left right = find (fits_row left right) products

abbrev pub finer : Option Units → Option Units → Option Units
finer (Some left) (Some right) = if int_lt (precision_of right) (precision_of left) then Some left else Some right
finer None right = right
finer (Some left) None = Some left

abbrev pub finer_percentage : Option Units → Option Units → Option Units
finer_percentage (Some left) (Some right) =
    if int_lt (precision_of right) (precision_of left) then Some left
    else (if int_lt (pos 1) (precision_of right) then Some right
    else Some (percentage (pos 2) (codes "0.00%")))
finer_percentage None right = right
finer_percentage (Some left) None = Some left

abbrev pub rounded_money : Units → Units
rounded_money (unit.Currency separator precision num_fmt currency) = unit.Currency true (pos 2) (currency ++ codes "#,##0.00") currency
rounded_money other = other

abbrev pub fine_money : Option Units → Option Units
fine_money (Some money) = if int_lt (pos 1) (precision_of money) then Some money else Some (rounded_money money)
fine_money None = None

abbrev pub outcome_unit : Outcome → Option Units → Option Units → Option Units
outcome_unit outcome.Nothing left right = None
outcome_unit outcome.Left left right = left
outcome_unit outcome.Right left right = right
outcome_unit outcome.Finer left right = finer left right
outcome_unit outcome.FinerPercentage left right = finer_percentage left right
outcome_unit outcome.LeftMoney left right = fine_money left
outcome_unit outcome.RightMoney left right = fine_money right

abbrev pub product_unit : OpProduct → Option Units → Option Units → Option Units
product_unit kind left right = outcome_unit (outcome_of kind left right) left right
