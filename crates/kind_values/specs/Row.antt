-- The rows of the rules: what each says of a call.
--   row_of   the row of a rule
use Rattle.std.specs.Prelude.{true, false}
use Rattle.kind_values.specs.declared.value_rule.ValueRule.{ValueRule}
use Rattle.kind_values.specs.declared.value_rule.ValueRule.TheVariants as rule
use Rattle.kind_values.specs.declared.row.Row.{Row}
use Rattle.kind_values.specs.declared.row.Row.TheVariants.{Reckoned, Constant, EachNumber, Choice, NotImplemented}
use Rattle.kind_values.specs.declared.counting.Counting.TheVariants.{Numbers, ReadableNumbers, Filled, Truths}
use Rattle.kind_values.specs.declared.reckoning.Reckoning.TheVariants.{Total, Least, Greatest, Count, All, Any}
use Rattle.kind_values.specs.declared.number_rule.NumberRule.TheVariants.{Absolute, Sign, Floor}

abbrev pub row_of : ValueRule → Row
row_of rule.Sum = Reckoned Numbers Total
row_of rule.Min = Reckoned Numbers Least
row_of rule.Max = Reckoned Numbers Greatest
row_of rule.Count = Reckoned ReadableNumbers Count
row_of rule.Counta = Reckoned Filled Count
row_of rule.And = Reckoned Truths All
row_of rule.Or = Reckoned Truths Any
row_of rule.True = Constant true
row_of rule.False = Constant false
row_of rule.Abs = EachNumber Absolute
row_of rule.Sign = EachNumber Sign
row_of rule.Int = EachNumber Floor
row_of rule.If = Choice
row_of rule.NotImplemented = NotImplemented
