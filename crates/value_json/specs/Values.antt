-- The JSON form of values: which value a JSON value is, and which JSON value a value is.
--
-- `error_in`    the error value that an object with exactly the key `error` names
-- `value_in`    a value: null for a blank, a truth value, a number, a text or an error value
-- `row_in`      a row: an array of values
-- `rows_in`     rows: an array of them
-- `error_data`, `value_data`, `row_data`, `rows_data`   the other way
use Rattle.std.specs.Prelude.{List, map, codes, Option, Some, None, option_map}
use Rattle.serde_json.specs.Data.{Data, null, boolean, number, string, array, object, member, no_members}
use Rattle.serde_json.specs.Find.{as_i64, as_str, get}
use Rattle.value_core.specs.ErrorName.{error_name}
use Rattle.value_core.specs.declared.array.ArrayNode.{ArrayNode}
use Rattle.value_core.specs.declared.array.ArrayNode.TheVariants.{Number, Boolean, String, Error, Empty}
use Rattle.value_core.specs.declared.error.Error as error
use Rattle.value_json.specs.declared.value.TheConstants.{ERROR_KEYS}
use Rattle.value_json.specs.Traverse.{traverse}
use Rattle.value_json.specs.ErrorValues.{error_named}
use Rattle.value_json.specs.Fields.{◌>>=◌, places_in}
use Rattle.value_json.specs.Objects.{has_only}
use Rattle.value_json.specs.Piece.{list_data, whole}

unfoldable pub error_in : Data → Option error.Error
error_in datum = do
  exactly ← has_only (map (λ key. key.now) ERROR_KEYS) datum
  name ← get (codes "error") datum >>= as_str
  error_named name

unfoldable pub value_in : Data → Option ArrayNode
value_in null = Some Empty
value_in (boolean truth) = Some (Boolean truth)
value_in (number whole) = option_map Number (as_i64 whole)
value_in (string text) = Some (String text)
value_in (array items) = None
value_in (object members) = option_map Error (error_in (object members))

unfoldable pub row_in : Data → Option (List ArrayNode)
row_in datum = do
  places ← places_in datum
  traverse value_in places

unfoldable pub rows_in : Data → Option (List (List ArrayNode))
rows_in datum = do
  places ← places_in datum
  traverse row_in places

abbrev pub error_data : error.Error → Data
error_data e = object (member (codes "error") (string (error_name e)) no_members)

abbrev pub value_data : ArrayNode → Data
value_data Empty = null
value_data (Boolean truth) = boolean truth
value_data (Number millionths) = whole millionths
value_data (String text) = string text
value_data (Error e) = error_data e

abbrev pub row_data : List ArrayNode → Data
row_data values = list_data (map value_data values)

abbrev pub rows_data : List (List ArrayNode) → Data
rows_data rows = list_data (map row_data rows)
