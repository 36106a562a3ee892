-- The JSON form of a list of texts.
--
-- `texts_in`    the texts of an array of texts
-- `texts_data`  the other way
use Rattle.std.specs.Prelude.{ℕ, List, map, Option}
use Rattle.serde_json.specs.Data.{Data, string}
use Rattle.serde_json.specs.Find.{as_str}
use Rattle.value_json.specs.Traverse.{traverse}
use Rattle.value_json.specs.Fields.{◌>>=◌, places_in}
use Rattle.value_json.specs.Piece.{list_data}

unfoldable pub texts_in : Data → Option (List (List ℕ))
texts_in datum = do
  places ← places_in datum
  traverse as_str places

abbrev pub texts_data : List (List ℕ) → Data
texts_data texts = list_data (map string texts)
