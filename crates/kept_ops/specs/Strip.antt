-- Elements in one line.
--   strip  one column of them, or one row
use Rattle.std.specs.Prelude.{Bool, if◌then◌else◌, List, [], ◌∷◌, map}
use Rattle.value_core.specs.declared.array.ArrayNode.{ArrayNode}

abbrev pub strip : Bool → List ArrayNode → List (List ArrayNode)
strip as_column elements = if as_column then map (λ element. element ∷ []) elements else elements ∷ []
