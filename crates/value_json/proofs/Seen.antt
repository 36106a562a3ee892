-- An array's elements and an object's keys, as definitions and as parsed values see them.
--   elements_of-items_view    the elements of a parsed array, each as its data
--   list_all-keys_of     a test of traverse key of a parsed object
--   is_known-now         whether a key is among some names that are borrowed
use Rattle.std.proofs.Common.{◌≡◌, ℕ, Bool, ◌&&◌, ◌||◌, Bor, List, [], ◌∷◌, String, Global, map, refl, ap, string_bytes}
use Rattle.std.specs.List.{list_all, list_any}
use Rattle.std.specs.Str.{bytes_eq}
use Rattle.serde_json.specs.View.{view, items_view, members_view}
use Rattle.serde_json.specs.declared.value.Value.{Value}
use Rattle.value_json.specs.Fields.{elements_of}
use Rattle.value_json.specs.Objects.{keys_of, is_known}

pub elements_of-items_view : (values : List Value) → elements_of (items_view values) ≡ map view values
elements_of-items_view [] = refl
elements_of-items_view (value ∷ values) = ap (λ places. view value ∷ places) (elements_of-items_view values)

-- for a reader of an array
pub ruleset elements = (elements_of-items_view)

pub list_all-keys_of : (test : List ℕ → Bool) (members : List (String Global × Value)) → list_all test (keys_of (members_view members)) ≡ list_all (λ key. test (string_bytes key)) (map (λ m. m.0) members)
list_all-keys_of test [] = refl
list_all-keys_of test (member ∷ members) = ap (λ later. test (string_bytes member.0) && later) (list_all-keys_of test members)

-- for a reader that looks at keys
pub ruleset members = (list_all-keys_of)

pub is_known-now : (known : List (Bor (List ℕ))) (key : List ℕ) → is_known (map (λ name. name.now) known) key ≡ list_any (λ name. bytes_eq name.now key) known
is_known-now [] key = refl
is_known-now (name ∷ known) key = ap (λ later. bytes_eq name.now key || later) (is_known-now known key)

-- for a reader that has borrowed names
pub ruleset names = (is_known-now)
