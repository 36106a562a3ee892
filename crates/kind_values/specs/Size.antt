-- The sizes of values.
--   rows_of, columns_of   how many rows and columns a value has: one of a single or missing one
--   greatest              the greatest of the sizes of some values, at least 1
--   keeps_sizes           whether a value by a rule may be larger than one by one
--   Fits                  a value that isn't missing, and has at most so many rows and columns
--   KindValuesFit         a value by a rule is no larger than its greatest argument, or one by one where the rule says so
use Rattle.std.specs.Prelude.{ℕ, ◌≤◌, max, Bool, true, false, if◌then◌else◌, ⊤, List, map, fold}
use Rattle.rectangle_core.specs.Rectangle.{height, width}
use Rattle.rectangle_core.specs.declared.value.Value.{Value}
use Rattle.rectangle_core.specs.declared.value.Value.TheVariants.{One, Missing, Grid}
use Rattle.kind_values.specs.declared.value_rule.ValueRule.{ValueRule}
use Rattle.kind_values.specs.declared.value_rule.ValueRule.TheVariants.{Abs, Sign, Int, If}
use Rattle.kind_values.specs.KindValue.{kind_value}

abbrev pub rows_of : Value → ℕ
rows_of (One element) = 1
rows_of Missing = 1
rows_of (Grid rows) = height rows

abbrev pub columns_of : Value → ℕ
columns_of (One element) = 1
columns_of Missing = 1
columns_of (Grid rows) = width rows

abbrev pub greatest : List ℕ → ℕ
greatest sizes = fold max 1 sizes

abbrev pub keeps_sizes : ValueRule → Bool
keeps_sizes Abs = true
keeps_sizes Sign = true
keeps_sizes Int = true
keeps_sizes If = true
keeps_sizes other = false

abbrev pub IsPresent : Value → Type 0
IsPresent (One element) = ⊤
IsPresent Missing = ⊥
IsPresent (Grid rows) = ⊤

pub record Fits (rows columns : ℕ) (value : Value) : Type 0 where
  pub present : IsPresent value
  pub rows_fit : rows_of value ≤ rows
  pub columns_fit : columns_of value ≤ columns

abbrev pub KindValuesFit : ValueRule → Type 0
KindValuesFit rule = (values : List Value) → Fits
    (if keeps_sizes rule then greatest (map rows_of values) else 1)
    (if keeps_sizes rule then greatest (map columns_of values) else 1)
    (kind_value rule values)
