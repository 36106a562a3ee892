-- The parts that a JSON text is made of.
--
-- `Writes`          a writer's step: the tokens were added, or memory ran out
-- `data_tokens`     the tokens of a JSON value
-- `list_tokens`     the tokens of several, one after another
-- `rest_tokens`     the same and the end of their array
-- `list_data`       an array of several
-- `tagged_list`          an array of a tag and of what belongs to it
-- `whole`           a whole number
-- `text_or_null`    a text, or null where there is none
-- `number_or_null`  a natural number, or null where there is none
use Rattle.std.specs.Prelude.{◌≡◌, ℕ, ℤ, pos, List, [], ◌∷◌, ◌++◌, Option, None, Some, Result, OnOk}
use Rattle.json.specs.Token.{Token}
use Rattle.json.specs.Tree.{json_tokens, items_tokens}
use Rattle.json.specs.Written.{Written}
use Rattle.serde_json.specs.Data.{Data, null, number, string, array}
use Rattle.serde_json.specs.Find.{of_integer}
use Rattle.serde_json.specs.View.{items_of}
use Rattle.serde_json.specs.Written.{outline, items_outline}

pub record Writes {E : Type 0} (result : Result (Unit {0}) E) (old new : Written) (added : List Token) : Type 0 where
  pub before : new.before ≡ old.before
  pub tokens : OnOk result (new.tokens ≡ old.tokens ++ added)

abbrev pub data_tokens : Data → List Token
data_tokens value = json_tokens (outline value)

abbrev pub list_tokens : List Data → List Token
list_tokens [] = []
list_tokens (value ∷ values) = data_tokens value ++ list_tokens values

abbrev pub rest_tokens : List Data → List Token
rest_tokens values = items_tokens (items_outline (items_of values))

abbrev pub list_data : List Data → Data
list_data values = array (items_of values)

abbrev pub tagged_list : List ℕ → List Data → Data
tagged_list tag parts = list_data (string tag ∷ parts)

abbrev pub whole : ℤ → Data
whole n = number (of_integer n)

abbrev pub text_or_null : Option (List ℕ) → Data
text_or_null None = null
text_or_null (Some text) = string text

abbrev pub number_or_null : Option ℕ → Data
number_or_null None = null
number_or_null (Some n) = whole (pos n)
