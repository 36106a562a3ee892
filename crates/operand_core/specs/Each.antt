-- A rule over each element of a value.
--   each_of   the value of what the rule makes of each element: a missing value is one blank
use Rattle.std.specs.Prelude.{map}
use Rattle.value_core.specs.declared.array.ArrayNode.{ArrayNode}
use Rattle.value_core.specs.declared.array.ArrayNode.TheVariants.{Empty}
use Rattle.rectangle_core.specs.declared.value.Value.{Value}
use Rattle.rectangle_core.specs.declared.value.Value.TheVariants.{One, Missing, Grid}

abbrev pub each_of : (ArrayNode → ArrayNode) → Value → Value
each_of rule (One element) = One (rule element)
each_of rule Missing = One (rule Empty)
each_of rule (Grid rows) = Grid (map (λ row. map rule row) rows)
