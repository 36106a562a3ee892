-- Single values under operators.
--   reckoned      two numbers under an operator on numbers
--   with_numbers  the same of two elements, after their casts; the left cast's error comes first
--   concatenated  two texts after their casts, one behind the other
--   holds         whether a comparison holds, by the order of its sides
--   compared      a comparison of two elements; an error is the answer, the left one first
--   combine       two elements under an operator
--   combine_one   one element under an operator, after its cast to a number
use Rattle.std.specs.Prelude.{ℤ, pos, ◌+ℤ◌, ◌-ℤ◌, neg_ℤ, int_lt, int_le, Bool, not, ◌||◌, Result, Ok, Err, ◌++◌}
use Rattle.value_core.specs.declared.array.ArrayNode.{ArrayNode}
use Rattle.value_core.specs.declared.array.ArrayNode.TheVariants.{Boolean, String, Error as Wrong}
use Rattle.value_core.specs.declared.error.Error.{Error}
use Rattle.value_core.specs.declared.error.Error.TheVariants.{VALUE}
use Rattle.value_core.specs.declared.operator.Operator.{Operator}
use Rattle.value_core.specs.declared.operator.Operator.TheVariants.{Concatenate, Power, Sum, Product, Compare}
use Rattle.value_core.specs.declared.operator.OpSum.TheVariants.{Add, Minus}
use Rattle.value_core.specs.declared.operator.OpProduct.TheVariants.{Times, Divide}
use Rattle.value_core.specs.declared.operator.OpUnary.{OpUnary}
use Rattle.value_core.specs.declared.operator.OpUnary.TheVariants as unary
use Rattle.value_core.specs.declared.operator.OpCompare.{OpCompare}
use Rattle.value_core.specs.declared.operator.OpCompare.TheVariants.{LessThan, GreaterThan, Equal, LessOrEqualThan, GreaterOrEqualThan, NonEqual}
use Rattle.number_core.specs.Number.{in_range, percent, power, product, quotient}
use Rattle.operand_core.specs.Cast.{cast_to_number, cast_to_string, element_of}
use Rattle.grid_core.specs.Order.{compare_values}

abbrev pub both : {X : Type 0} → Result X Error → Result X Error → (X → X → ArrayNode) → ArrayNode
both (Ok a) (Ok b) f = f a b
both (Ok a) (Err e) f = Wrong e
both (Err e) right f = Wrong e

-- the last two are no operators on numbers
abbrev pub reckoned : Operator → ℤ → ℤ → Result ℤ Error
reckoned (Sum Add) m n = in_range (m +ℤ n)
reckoned (Sum Minus) m n = in_range (m -ℤ n)
reckoned (Product Times) m n = product m n
reckoned (Product Divide) m n = quotient m n
reckoned Power m n = power m n
reckoned Concatenate m n = Err VALUE
reckoned (Compare kind) m n = Err VALUE

abbrev pub with_numbers : Operator → ArrayNode → ArrayNode → ArrayNode
with_numbers operator left right = both (cast_to_number left) (cast_to_number right) (λ m n. element_of (reckoned operator m n))

abbrev pub concatenated : ArrayNode → ArrayNode → ArrayNode
concatenated left right = both (cast_to_string left) (cast_to_string right) (λ s t. String (s ++ t))

abbrev pub holds : OpCompare → ℤ → Bool
holds LessThan order = int_lt order (pos 0)
holds GreaterThan order = int_lt (pos 0) order
holds Equal order = not (int_lt order (pos 0) || int_lt (pos 0) order)
holds LessOrEqualThan order = int_le order (pos 0)
holds GreaterOrEqualThan order = int_le (pos 0) order
holds NonEqual order = int_lt order (pos 0) || int_lt (pos 0) order

abbrev pub compared : OpCompare → ArrayNode → ArrayNode → ArrayNode
compared kind (Wrong e) right = Wrong e
compared kind left (Wrong e) = Wrong e
compared kind left right = Boolean (holds kind (compare_values left right))

abbrev pub combine : Operator → ArrayNode → ArrayNode → ArrayNode
combine Concatenate left right = concatenated left right
combine (Compare kind) left right = compared kind left right
combine operator left right = with_numbers operator left right

abbrev pub reckoned_one : OpUnary → ℤ → Result ℤ Error
reckoned_one unary.Minus n = in_range (neg_ℤ n)
reckoned_one unary.Percentage n = Ok (percent n)

abbrev pub with_number : OpUnary → Result ℤ Error → ArrayNode
with_number operator (Ok n) = element_of (reckoned_one operator n)
with_number operator (Err e) = Wrong e

abbrev pub combine_one : OpUnary → ArrayNode → ArrayNode
combine_one operator element = with_number operator (cast_to_number element)
