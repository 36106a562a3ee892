-- What is made of the numbers that count.
--   total      their sum
--   least, greatest   the least and the greatest of them; 0 where there are none
--   reckoned   the answer: a sum or a count that is out of range is #NUM!; whether all or any are true is #VALUE! of none
use Rattle.std.specs.Prelude.{ℤ, pos, ◌+ℤ◌, ◌*◌, Bool, not, List, [], ◌∷◌, length, fold}
use Rattle.std.specs.Int.{int_max, int_min}
use Rattle.std.specs.List.{list_all, list_any}
use Rattle.value_core.specs.declared.array.ArrayNode.{ArrayNode}
use Rattle.value_core.specs.declared.array.ArrayNode.TheVariants.{Number, Boolean, Error as Wrong}
use Rattle.value_core.specs.declared.error.Error.TheVariants.{VALUE}
use Rattle.number_core.specs.Number.{in_range, is_zero}
use Rattle.operand_core.specs.Cast.{element_of}
use Rattle.kind_values.specs.declared.reckoning.Reckoning.{Reckoning}
use Rattle.kind_values.specs.declared.reckoning.Reckoning.TheVariants.{Total, Least, Greatest, Count, All, Any}

abbrev pub total : List ℤ → ℤ
total numbers = fold ◌+ℤ◌ (pos 0) numbers

abbrev pub least : List ℤ → ℤ
least [] = pos 0
least (n ∷ numbers) = fold int_min n numbers

abbrev pub greatest : List ℤ → ℤ
greatest [] = pos 0
greatest (n ∷ numbers) = fold int_max n numbers

abbrev pub is_true : ℤ → Bool
is_true n = not (is_zero n)

abbrev pub all_true : List ℤ → ArrayNode
all_true [] = Wrong VALUE
all_true (n ∷ numbers) = Boolean (list_all is_true (n ∷ numbers))

abbrev pub any_true : List ℤ → ArrayNode
any_true [] = Wrong VALUE
any_true (n ∷ numbers) = Boolean (list_any is_true (n ∷ numbers))

abbrev pub reckoned : Reckoning → List ℤ → ArrayNode
reckoned Total numbers = element_of (in_range (total numbers))
reckoned Least numbers = Number (least numbers)
reckoned Greatest numbers = Number (greatest numbers)
reckoned Count numbers = element_of (in_range (pos (length numbers * 1000000)))
reckoned All numbers = all_true numbers
reckoned Any numbers = any_true numbers
