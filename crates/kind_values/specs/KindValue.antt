-- The value of a call by its rule.
--   over_numbers   what is made of the numbers that count, or the first error
--   constant       a truth value, of a call without arguments
--   each_number    a value of one argument, element by element
--   chosen_value   a choice of two or three arguments; the second choice is FALSE where there are two
--   kind_value     the value by the rule's row
use Rattle.std.specs.Prelude.{ℤ, Bool, false, Result, Ok, Err, List, [], ◌∷◌}
use Rattle.value_core.specs.declared.array.ArrayNode.TheVariants.{Boolean, Error as Wrong}
use Rattle.value_core.specs.declared.error.Error.{Error}
use Rattle.value_core.specs.declared.error.Error.TheVariants.{ERROR, NIMPL}
use Rattle.rectangle_core.specs.declared.value.Value.{Value}
use Rattle.rectangle_core.specs.declared.value.Value.TheVariants.{One}
use Rattle.operand_core.specs.Each.{each_of}
use Rattle.kind_values.specs.declared.counting.Counting.{Counting}
use Rattle.kind_values.specs.declared.reckoning.Reckoning.{Reckoning}
use Rattle.kind_values.specs.declared.number_rule.NumberRule.{NumberRule}
use Rattle.kind_values.specs.declared.value_rule.ValueRule.{ValueRule}
use Rattle.kind_values.specs.declared.row.Row.{Row}
use Rattle.kind_values.specs.declared.row.Row.TheVariants.{Reckoned, Constant, EachNumber, Choice, NotImplemented}
use Rattle.kind_values.specs.Choice.{choice}
use Rattle.kind_values.specs.Counting.{numbers_from}
use Rattle.kind_values.specs.NumberRule.{made_by}
use Rattle.kind_values.specs.Reckoning.{reckoned}
use Rattle.kind_values.specs.Row.{row_of}

abbrev pub error_value : Error → Value
error_value e = One (Wrong e)

abbrev pub answered : Reckoning → Result (List ℤ) Error → Value
answered reckoning (Ok numbers) = One (reckoned reckoning numbers)
answered reckoning (Err e) = error_value e

abbrev pub over_numbers : Counting → Reckoning → List Value → Value
over_numbers counting reckoning values = answered reckoning (numbers_from counting values)

abbrev pub constant : Bool → List Value → Value
constant truth [] = One (Boolean truth)
constant truth values = error_value ERROR

abbrev pub each_number : NumberRule → List Value → Value
each_number rule (value ∷ []) = each_of (made_by rule) value
each_number rule values = error_value ERROR

abbrev pub chosen_value : List Value → Value
chosen_value (condition ∷ first ∷ []) = choice condition first (One (Boolean false))
chosen_value (condition ∷ first ∷ second ∷ []) = choice condition first second
chosen_value values = error_value ERROR

abbrev pub value_by : Row → List Value → Value
value_by (Reckoned counting reckoning) values = over_numbers counting reckoning values
value_by (Constant truth) values = constant truth values
value_by (EachNumber rule) values = each_number rule values
value_by Choice values = chosen_value values
value_by NotImplemented values = error_value NIMPL

abbrev pub kind_value : ValueRule → List Value → Value
kind_value rule values = value_by (row_of rule) values
