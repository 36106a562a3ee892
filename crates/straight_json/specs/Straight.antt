-- What stands at the front of some tokens.
--
-- `Reads`         a value, and the tokens behind it
-- `ReadsItems`    the elements of an array from here on, and the tokens behind the bracket that closes it
-- `ReadsMembers`  all members of an object, of which some stood before and the others stand from here on, and the tokens behind
--                 the brace that closes it; of equal keys the last one counts
-- `IsField`       a value that is no array and no object, of which something is found
-- `IsCorner`      four such values, which say where an end of a reference lies
-- `IsNode`        a formula
-- `AreNodes`      formulas up to the bracket that closes an array
-- `IsTagged`      what stands behind the tag of a node, and which node that is
-- `i64_in`, `i32_in`, `id_in`, `name_in`, `kind_in`  what a value is, as it is found at a place of an array
use Rattle.std.specs.Prelude.{◌≡◌, ◌≤◌, ◌&&◌, ℕ, ℤ, pos, negsuc, List, ◌∷◌, length, map, int_le, is_some, if◌then◌else◌, Option, Some, None, option_map}
use Rattle.json.specs.Token.{Token}
use Rattle.json.specs.Json.{value, items, members}
use Rattle.serde_json.specs.Data.{Data, Members}
use Rattle.serde_json.specs.Find.{as_bool, as_null, as_number, as_i64, as_str}
use Rattle.serde_json.specs.Read.{of_json, of_items, of_members, converted}
use Rattle.serde_json.specs.View.{items_of}
use Rattle.call_core.specs.declared.function.Function.{Function}
use Rattle.tree_core.specs.Formula.{tree_of}
use Rattle.tree_core.specs.declared.corner.Corner.{Corner}
use Rattle.tree_core.specs.declared.node.Node.{Node}
use Rattle.value_json.specs.Fields.{◌>>=◌, u32_in}
use Rattle.value_json.specs.Traverse.{traverse}
use Rattle.formula_json.specs.Kinds.{kind_named, numbered_in}
use Rattle.formula_json.specs.Formula.{node_of, node_with}
use Rattle.formula_json.specs.declared.tag.Tag.{Tag}

abbrev pub Reads : ℕ → List Token → Data → List Token → Type 0
Reads depth old datum new = converted of_json (value depth old) ≡ Some (datum, new)

abbrev pub ReadsItems : ℕ → List Token → List Data → List Token → Type 0
ReadsItems depth old places new = (n : ℕ) → length old ≤ n → converted of_items (items (value depth) n old) ≡ Some (items_of places, new)

abbrev pub ReadsMembers : ℕ → List Token → Members → Members → List Token → Type 0
ReadsMembers depth old before all new = (n : ℕ) → length old ≤ n → converted (λ found. of_members found before) (members (value depth) n old) ≡ Some (all, new)

abbrev pub IsField : {A : Type 0} → (Data → Option A) → List Token → A → List Token → Type 0
IsField finds old found new = (datum : Data) × ((depth : ℕ) → Reads depth old datum new) × (finds datum ≡ Some found)

abbrev pub i64_in : Data → Option ℤ
i64_in datum = do
  number ← as_number datum
  as_i64 number

abbrev pub i32_in : Data → Option ℤ
i32_in datum = do
  whole ← i64_in datum
  if int_le (negsuc 2147483647) whole && int_le whole (pos 2147483647) then Some whole else None

abbrev pub id_in : Data → Option (Option ℕ)
id_in datum = if is_some (as_null datum) then Some None else option_map Some (u32_in datum)

abbrev pub name_in : Data → Option (Option (List ℕ))
name_in datum = if is_some (as_null datum) then Some None else option_map Some (as_str datum)

abbrev pub kind_in : Data → Option Function
kind_in datum = if is_some (as_str datum) then as_str datum >>= kind_named else numbered_in datum

abbrev pub IsCorner : List Token → Corner → List Token → Type 0
IsCorner old corner new =
    (t1 : List Token) × (t2 : List Token) × (t3 : List Token)
    × IsField as_bool old corner.absolute_row t1 × IsField as_bool t1 corner.absolute_column t2 × IsField i32_in t2 corner.row t3 × IsField i32_in t3 corner.column new

abbrev pub IsNode : ℕ → List Token → Node → List Token → Type 0
IsNode depth old node new = (datum : Data) × Reads depth old datum new × (node_of datum ≡ Some (tree_of node))

abbrev pub AreNodes : ℕ → List Token → List Node → List Token → Type 0
AreNodes depth old nodes new = (places : List Data) × ReadsItems depth old places new × (traverse node_of places ≡ Some (map tree_of nodes))

abbrev pub IsTagged : ℕ → Tag → List Token → Node → List Token → Type 0
IsTagged depth tag old node new =
    (places : List Data) × ReadsItems depth old places new × ((name : Data) → node_with tag (name ∷ places) (map node_of (name ∷ places)) ≡ Some (tree_of node))
