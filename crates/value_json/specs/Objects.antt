-- What stands in objects.
--
-- `keys_of`   the keys of an object's members
-- `is_known`  that a key is among some
-- `has_only`  that a value is an object, with no other keys than some
use Rattle.std.specs.Prelude.{ℕ, Bool, List, [], ◌∷◌, if◌then◌else◌, Option, Some, None, ⊤}
use Rattle.std.specs.List.{list_all, list_any}
use Rattle.std.specs.Str.{bytes_eq}
use Rattle.serde_json.specs.Data.{Data, Members, no_members, member}
use Rattle.serde_json.specs.Find.{as_object}
use Rattle.value_json.specs.Fields.{◌>>=◌}

abbrev pub keys_of : Members → List (List ℕ)
keys_of no_members = []
keys_of (member key datum members) = key ∷ keys_of members

abbrev pub is_known : List (List ℕ) → List ℕ → Bool
is_known known key = list_any (λ name. bytes_eq name key) known

unfoldable pub has_only : List (List ℕ) → Data → Option ⊤
has_only known datum = do
  members ← as_object datum
  if list_all (is_known known) (keys_of members) then Some tt else None
