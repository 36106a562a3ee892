-- Kinds of functions read back.
--   kind_named-function_name  a kind by its name, since no other kind has that name
--   kind_at-is                a kind, by its name or by its number
use Rattle.std.proofs.Common.{◌≡◌, ℕ, List, [], Option, Some, None, is_some, if◌then◌else◌, unwrap_or, slice_get, get_or, Equal, refl, sym, ap, ◌∙◌, lt-ltb}
use Rattle.std.proofs.lemmas.List.{get_or_default}
use Rattle.std.proofs.lemmas.Cmp.{nat_list_cmp_total, tied_itself}
use Rattle.std.specs.Option.{option_map_or}
use Rattle.std.specs.List.{HoldsAt}
use Rattle.serde_json.specs.Data.{Data, string}
use Rattle.serde_json.specs.Find.{as_str}
use Rattle.call_core.specs.declared.function.Function.{Function}
use Rattle.call_core.specs.declared.function.Function.TheVariants.{Other}
use Rattle.kind_table.specs.Names.{function_name, in_order, own_names}
use Rattle.kind_table.proofs.Complete.{text, contained}
use Rattle.kind_table.proofs.Ascending.{by_bytes}
use Rattle.kind_table.proofs.Found.{found}
use Rattle.value_json.specs.Fields.{◌>>=◌}
use Rattle.formula_json.specs.Kinds.{kind_named, numbered_in, kind_at, number_data, kind_data}
use Rattle.formula_json.proofs.ByName.{found_by_name}
use Rattle.json_laws.specs.InRange.{kind_in_range}

pub kind_named-function_name : (kind : Function) (name : List ℕ) → function_name kind ≡ Some name → kind_named name ≡ Some kind
kind_named-function_name kind name named =
    let at = contained kind name named in
    let mine : text kind ≡ name = ap (λ o. unwrap_or o []) named in
    let here : (d : Function) → get_or in_order at.0 d ≡ kind = λ d. get_or_default in_order at.0 d kind at.1 ∙ at.2 in
    let reads : HoldsAt (λ k. by_bytes (text k) name ≡ Equal) in_order at.0 = λ d. ap (λ k. by_bytes (text k) name) (here d) ∙ ap (λ t. by_bytes t name) mine ∙ tied_itself nat_list_cmp_total name in
    sym (found_by_name name (Some (get_or in_order at.0 kind)) (found in_order refl name at.0 kind at.1 reads)) ∙ ap Some (here kind)

-- what is written of a kind without a name is its number
from_number : (kind : Function) → function_name kind ≡ None → kind_in_range kind
    → (if is_some (as_str (number_data kind)) then as_str (number_data kind) >>= kind_named else numbered_in (number_data kind)) ≡ Some kind
unfolding numbered_in own_names
from_number (Other number) unnamed below = rw (lt-ltb _ _ below)
from_number kind unnamed below = cc

module _ (place : ℕ) (places : List Data) (kind : Function) (below : kind_in_range kind) where
  by_name : (name : Option (List ℕ)) → function_name kind ≡ name → slice_get places place ≡ Some (option_map_or string name (number_data kind)) → kind_at place places ≡ Some kind
  unfolding kind_at
  by_name (Some name) named is = rw is (kind_named-function_name kind name named)
  by_name None named is = rw is (from_number kind named below)

  pub kind_at-is : slice_get places place ≡ Some (kind_data kind) → kind_at place places ≡ Some kind
  kind_at-is is = by_name (function_name kind) refl is
