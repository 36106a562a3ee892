-- What is made of one number.
--   number_by  the number without its sign, its sign, and the greatest whole number that is not above it
--   made_by    the same of an element, after its cast to a number; an error stays in its place
use Rattle.std.specs.Prelude.{ℤ, pos, ◌*ℤ◌, Result, Ok, Err}
use Rattle.std.specs.Int.RustNames.{unsigned_abs}
use Rattle.value_core.specs.declared.array.ArrayNode.{ArrayNode}
use Rattle.value_core.specs.declared.array.ArrayNode.TheVariants.{Error as Wrong}
use Rattle.value_core.specs.declared.error.Error.{Error}
use Rattle.number_core.specs.Number.{in_range, sign}
use Rattle.number_core.specs.Whole.{floor}
use Rattle.operand_core.specs.Cast.{cast_to_number, element_of}
use Rattle.kind_values.specs.declared.number_rule.NumberRule.{NumberRule}
use Rattle.kind_values.specs.declared.number_rule.NumberRule.TheVariants.{Absolute, Sign, Floor}

abbrev pub number_by : NumberRule → ℤ → Result ℤ Error
number_by Absolute n = in_range (pos (unsigned_abs n))
number_by Sign n = Ok (sign n)
number_by Floor n = in_range (floor n *ℤ pos 1000000)

abbrev pub made_of_number : NumberRule → Result ℤ Error → ArrayNode
made_of_number rule (Ok n) = element_of (number_by rule n)
made_of_number rule (Err e) = Wrong e

abbrev pub made_by : NumberRule → ArrayNode → ArrayNode
made_by rule element = made_of_number rule (cast_to_number element)
