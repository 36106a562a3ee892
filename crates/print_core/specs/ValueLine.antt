-- One value as a line.
--   one_line    its compact JSON, and a newline
--   value_line  that line, or `none` and a newline where there is no value
use Rattle.std.specs.Prelude.{ℕ, List, [], ◌∷◌, ◌++◌, codes, Option, Some, None}
use Rattle.serde_json.specs.Written.{compact_text}
use Rattle.value_core.specs.declared.array.ArrayNode.{ArrayNode}
use Rattle.value_json.specs.Values.{value_data}

abbrev pub one_line : ArrayNode → List ℕ
one_line value = compact_text (value_data value) ++ 10 ∷ []

abbrev pub value_line : Option ArrayNode → List ℕ
value_line (Some value) = one_line value
value_line None = codes "none" ++ 10 ∷ []
