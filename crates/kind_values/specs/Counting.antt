-- The numbers that count among values.
--   number_counted  what counts as a number: in a rectangle numbers alone, of a single value its cast too; blanks are skipped
--   truth_counted   what counts as a truth value, 1 or 0: in a rectangle no texts; blanks are skipped
--   counted         the number that an element counts as, by a way of counting; none where it is skipped
--   fold_ok         a list worked through from the left, up to the first error
--   with_value      the numbers of one value more, by its rows
--   result_map      a result by what is made of its value
--   numbers_from    the numbers that count, one value after another, or the first error that is met
use Rattle.std.specs.Prelude.{ℤ, pos, Bool, true, false, if◌then◌else◌, Option, Some, None, Result, Ok, Err, List, [], ◌∷◌, ◌++◌}
use Rattle.std.specs.List.{flat_map}
use Rattle.value_core.specs.declared.array.ArrayNode.{ArrayNode}
use Rattle.value_core.specs.declared.array.ArrayNode.TheVariants.{Number, Boolean, String, Error as Wrong, Empty}
use Rattle.value_core.specs.declared.error.Error.{Error}
use Rattle.rectangle_core.specs.declared.value.Value.{Value}
use Rattle.rectangle_core.specs.declared.value.Value.TheVariants.{One, Missing, Grid}
use Rattle.operand_core.specs.Cast.{cast_to_bool, cast_to_number}
use Rattle.kind_values.specs.declared.counting.Counting.{Counting}
use Rattle.kind_values.specs.declared.counting.Counting.TheVariants.{Numbers, ReadableNumbers, Filled, Truths}

abbrev pub some_number : Result ℤ Error → Result (Option ℤ) Error
some_number (Ok n) = Ok (Some n)
some_number (Err e) = Err e

abbrev pub number_counted : Bool → ArrayNode → Result (Option ℤ) Error
number_counted alone (Number n) = Ok (Some n)
number_counted alone (Boolean b) = if alone then some_number (cast_to_number (Boolean b)) else Ok None
number_counted alone (String text) = if alone then some_number (cast_to_number (String text)) else Ok None
number_counted alone (Wrong e) = Err e
number_counted alone Empty = Ok None

abbrev pub some_truth : Result Bool Error → Result (Option ℤ) Error
some_truth (Ok b) = if b then Ok (Some (pos 1000000)) else Ok (Some (pos 0))
some_truth (Err e) = Err e

abbrev pub truth_counted : Bool → ArrayNode → Result (Option ℤ) Error
truth_counted alone (String text) = if alone then some_truth (cast_to_bool (String text)) else Ok None
truth_counted alone Empty = Ok None
truth_counted alone element = some_truth (cast_to_bool element)

abbrev pub or_skipped : Result (Option ℤ) Error → Result (Option ℤ) Error
or_skipped (Ok number) = Ok number
or_skipped (Err e) = Ok None

abbrev pub filled_counted : ArrayNode → Result (Option ℤ) Error
filled_counted Empty = Ok None
filled_counted element = Ok (Some (pos 1000000))

abbrev pub counted : Counting → Bool → ArrayNode → Result (Option ℤ) Error
counted Numbers alone element = number_counted alone element
counted ReadableNumbers alone element = or_skipped (number_counted alone element)
counted Filled alone element = filled_counted element
counted Truths alone element = truth_counted alone element

abbrev pub put_behind : List ℤ → Result (Option ℤ) Error → Result (List ℤ) Error
put_behind numbers (Ok (Some n)) = Ok (numbers ++ n ∷ [])
put_behind numbers (Ok None) = Ok numbers
put_behind numbers (Err e) = Err e

abbrev pub with_counted : Counting → Bool → List ℤ → ArrayNode → Result (List ℤ) Error
with_counted counting alone numbers element = put_behind numbers (counted counting alone element)

-- goes on with what came out, unless it is an error
abbrev pub then_do : {S : Type 0} → (S → Result S Error) → Result S Error → Result S Error
then_do f (Ok s) = f s
then_do f (Err e) = Err e

abbrev pub fold_ok : {S X : Type 0} → (S → X → Result S Error) → S → List X → Result S Error
fold_ok f s [] = Ok s
fold_ok f s (x ∷ xs) = then_do (λ t. fold_ok f t xs) (f s x)

abbrev pub result_map : {X Y : Type 0} → (X → Y) → Result X Error → Result Y Error
result_map f (Ok x) = Ok (f x)
result_map f (Err e) = Err e

abbrev pub with_value : Counting → List ℤ → Value → Result (List ℤ) Error
with_value counting numbers (One element) = with_counted counting true numbers element
with_value counting numbers Missing = Ok numbers
with_value counting numbers (Grid rows) = fold_ok (with_counted counting false) numbers (flat_map (λ row. row) rows)

abbrev pub numbers_from : Counting → List Value → Result (List ℤ) Error
numbers_from counting values = fold_ok (with_value counting) [] values
