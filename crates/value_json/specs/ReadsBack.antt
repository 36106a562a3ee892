-- That what is written is read as it.
--
-- `ValuesReadBack`  a value in range is what its JSON form is read as, and so are rows of such values
use Rattle.std.specs.Prelude.{◌≡◌, List, Some}
use Rattle.value_core.specs.declared.array.ArrayNode.{ArrayNode}
use Rattle.value_json.specs.InRange.{value_in_range, rows_in_range}
use Rattle.value_json.specs.Values.{value_in, rows_in, value_data, rows_data}

pub record ValuesReadBack : Type 0 where
  pub value : (value : ArrayNode) → value_in_range value → value_in (value_data value) ≡ Some value
  pub rows : (rows : List (List ArrayNode)) → rows_in_range rows → rows_in (rows_data rows) ≡ Some rows
