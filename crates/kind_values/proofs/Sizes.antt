-- The sizes of the values of calls.
--   kind-values-fit   a value by a rule is no larger than its greatest argument, or one by one
use Rattle.std.proofs.Common.{◌≡◌, ℕ, zero, suc, ◌≤◌, max, ℤ, pos, Bool, true, false, Result, Ok, Err, List, [], ◌∷◌, map, fold, refl, arith}
use Rattle.std.proofs.lemmas.List.{length-map}
use Rattle.value_core.specs.declared.array.ArrayNode.{ArrayNode}
use Rattle.value_core.specs.declared.array.ArrayNode.TheVariants.{Number, Boolean}
use Rattle.value_core.specs.declared.error.Error.{Error}
use Rattle.rectangle_core.specs.declared.value.Value.{Value}
use Rattle.rectangle_core.specs.declared.value.Value.TheVariants.{One, Missing, Grid}
use Rattle.rectangle_core.specs.Rectangle.{height, width, rectangle}
use Rattle.rectangle_core.proofs.Rectangles.{height-rectangle, width-rectangle}
use Rattle.operand_core.specs.Cast.{cast_to_bool}
use Rattle.operand_core.specs.Each.{each_of}
use Rattle.operand_core.specs.Side.{side, spread}
use Rattle.kind_values.specs.declared.counting.Counting.{Counting}
use Rattle.kind_values.specs.declared.counting.Counting.TheVariants.{Numbers, ReadableNumbers, Filled, Truths}
use Rattle.kind_values.specs.declared.reckoning.Reckoning.{Reckoning}
use Rattle.kind_values.specs.declared.reckoning.Reckoning.TheVariants.{Total, Least, Greatest, Count, All, Any}
use Rattle.kind_values.specs.declared.number_rule.NumberRule.{NumberRule}
use Rattle.kind_values.specs.declared.number_rule.NumberRule.TheVariants.{Absolute, Sign, Floor}
use Rattle.kind_values.specs.declared.value_rule.ValueRule.{ValueRule}
use Rattle.kind_values.specs.declared.value_rule.ValueRule.TheVariants as rule
use Rattle.kind_values.specs.Choice.{chosen_at, choice, or_zero, value_by_truth}
use Rattle.kind_values.specs.Counting.{numbers_from}
use Rattle.kind_values.specs.NumberRule.{made_by}
use Rattle.kind_values.specs.KindValue.{answered, over_numbers, constant, each_number, chosen_value}
use Rattle.kind_values.specs.Size.{rows_of, columns_of, greatest, Fits, KindValuesFit}

single : (e : ArrayNode) (m n : ℕ) → 1 ≤ m → 1 ≤ n → Fits m n (One e)
single e m n h k = record { present = tt; rows_fit = h; columns_fit = k }

some : (m : ℕ) (sizes : List ℕ) → m ≤ fold max m sizes
some m [] = omega arith
some m (n ∷ sizes) = omega (arith, some (max m n) sizes)

width-map : (f : ArrayNode → ArrayNode) (rows : List (List ArrayNode)) → width (map (λ row. map f row) rows) ≡ width rows
width-map f [] = refl
width-map f (row ∷ rows) = length-map row f

width-at-most : (rows columns : ℕ) (f : ℕ → ℕ → ArrayNode) → width (rectangle rows columns f) ≤ columns
width-at-most zero columns f = omega arith
width-at-most (suc rows) columns f = omega (arith, width-rectangle (suc rows) columns f (omega arith))

side-height : (e : ArrayNode) (value : Value) → height (side e value) ≡ rows_of value
side-height e (One other) = refl
side-height e Missing = refl
side-height e (Grid rows) = refl

side-width : (e : ArrayNode) (value : Value) → width (side e value) ≡ columns_of value
side-width e (One other) = refl
side-width e Missing = refl
side-width e (Grid rows) = refl

answered-fits : (reckoning : Reckoning) (numbers : Result (List ℤ) Error) → Fits 1 1 (answered reckoning numbers)
answered-fits reckoning (Ok numbers) = single _ 1 1 (omega arith) (omega arith)
answered-fits reckoning (Err e) = single _ 1 1 (omega arith) (omega arith)

over-numbers-fit : (counting : Counting) (reckoning : Reckoning) (values : List Value) → Fits 1 1 (over_numbers counting reckoning values)
over-numbers-fit counting reckoning values = answered-fits reckoning (numbers_from counting values)

constant-fits : (truth : Bool) (values : List Value) → Fits 1 1 (constant truth values)
constant-fits truth [] = single _ 1 1 (omega arith) (omega arith)
constant-fits truth (value ∷ values) = single _ 1 1 (omega arith) (omega arith)

each-fits : (f : ArrayNode → ArrayNode) (value : Value) (m n : ℕ) → 1 ≤ m → 1 ≤ n → rows_of value ≤ m → columns_of value ≤ n → Fits m n (each_of f value)
each-fits f (One e) m n h k a b = single _ m n h k
each-fits f Missing m n h k a b = single _ m n h k
each-fits f (Grid rows) m n h k a b = record {
  present = tt;
  rows_fit = omega (arith, length-map rows (λ row. map f row));
  columns_fit = omega (arith, width-map f rows);
}

each-number-fits : (rule : NumberRule) (values : List Value) → Fits (greatest (map rows_of values)) (greatest (map columns_of values)) (each_number rule values)
each-number-fits rule [] = single _ _ _ (omega arith) (omega arith)
each-number-fits rule (value ∷ []) = each-fits (made_by rule) value _ _ (omega arith) (omega arith) (omega arith) (omega arith)
each-number-fits rule (value ∷ other ∷ values) = single _ _ _ (some 1 (map rows_of (value ∷ other ∷ values))) (some 1 (map columns_of (value ∷ other ∷ values)))

or-zero-fits : (value : Value) (m n : ℕ) → 1 ≤ m → 1 ≤ n → rows_of value ≤ m → columns_of value ≤ n → Fits m n (or_zero value)
or-zero-fits (One e) m n h k a b = single _ m n h k
or-zero-fits Missing m n h k a b = single _ m n h k
or-zero-fits (Grid rows) m n h k a b = record { present = tt; rows_fit = a; columns_fit = b }

by-truth-fits : (truth : Result Bool Error) (first second : Value) (m n : ℕ) → 1 ≤ m → 1 ≤ n
    → rows_of first ≤ m → columns_of first ≤ n → rows_of second ≤ m → columns_of second ≤ n → Fits m n (value_by_truth truth first second)
by-truth-fits (Ok true) first second m n h k a b c d = or-zero-fits first m n h k a b
by-truth-fits (Ok false) first second m n h k a b c d = or-zero-fits second m n h k c d
by-truth-fits (Err e) first second m n h k a b c d = single _ m n h k

choice-fits : (condition first second : Value) (m n : ℕ) → 1 ≤ m → 1 ≤ n → rows_of condition ≤ m → columns_of condition ≤ n
    → rows_of first ≤ m → columns_of first ≤ n → rows_of second ≤ m → columns_of second ≤ n → Fits m n (choice condition first second)
choice-fits (One e) first second m n h k i j a b c d = by-truth-fits (cast_to_bool e) first second m n h k a b c d
choice-fits Missing first second m n h k i j a b c d = by-truth-fits (Ok false) first second m n h k a b c d
choice-fits (Grid rows) first second m n h k i j a b c d =
    let zero_element = Number (pos 0) in
    let high = max (height rows) (max (height (side zero_element first)) (height (side zero_element second))) in
    let wide = max (width rows) (max (width (side zero_element first)) (width (side zero_element second))) in
    let f = λ (y x : ℕ). chosen_at (spread rows y x) (spread (side zero_element first) y x) (spread (side zero_element second) y x) in
    record {
      present = tt;
      rows_fit = omega (arith, height-rectangle high wide f, side-height zero_element first, side-height zero_element second);
      columns_fit = omega (arith, width-at-most high wide f, side-width zero_element first, side-width zero_element second);
    }

chosen-value-fits : (values : List Value) → Fits (greatest (map rows_of values)) (greatest (map columns_of values)) (chosen_value values)
chosen-value-fits [] = single _ _ _ (omega arith) (omega arith)
chosen-value-fits (condition ∷ []) = single _ _ _ (omega arith) (omega arith)
chosen-value-fits (condition ∷ first ∷ []) = choice-fits condition first (One (Boolean false)) _ _ (omega arith) (omega arith) (omega arith) (omega arith) (omega arith) (omega arith) (omega arith) (omega arith)
chosen-value-fits (condition ∷ first ∷ second ∷ []) = choice-fits condition first second _ _ (omega arith) (omega arith) (omega arith) (omega arith) (omega arith) (omega arith) (omega arith) (omega arith)
chosen-value-fits (condition ∷ first ∷ second ∷ other ∷ values) =
    single _ _ _ (some 1 (map rows_of (condition ∷ first ∷ second ∷ other ∷ values))) (some 1 (map columns_of (condition ∷ first ∷ second ∷ other ∷ values)))

pub kind-values-fit : (kind : ValueRule) → KindValuesFit kind
kind-values-fit rule.Sum values = over-numbers-fit Numbers Total values
kind-values-fit rule.Min values = over-numbers-fit Numbers Least values
kind-values-fit rule.Max values = over-numbers-fit Numbers Greatest values
kind-values-fit rule.Count values = over-numbers-fit ReadableNumbers Count values
kind-values-fit rule.Counta values = over-numbers-fit Filled Count values
kind-values-fit rule.And values = over-numbers-fit Truths All values
kind-values-fit rule.Or values = over-numbers-fit Truths Any values
kind-values-fit rule.True values = constant-fits true values
kind-values-fit rule.False values = constant-fits false values
kind-values-fit rule.Abs values = each-number-fits Absolute values
kind-values-fit rule.Sign values = each-number-fits Sign values
kind-values-fit rule.Int values = each-number-fits Floor values
kind-values-fit rule.If values = chosen-value-fits values
kind-values-fit rule.NotImplemented values = single _ 1 1 (omega arith) (omega arith)
