-- What a binary search over the order of names finds.
use Rattle.std.proofs.Common.{◌≡◌, ℕ, zero, suc, ◌<◌, ◌≤◌, true, List, [], ◌∷◌, length, get_or, ◌↔◌, Option, Some, None, is_some, unwrap_or, Less, Equal, Greater, refl, sym, ap, ◌∙◌, ⊎_elim, arith}
use Rattle.std.specs.FinSet.{slice_cmp-IsAntisymmetric, nat_cmp-IsAntisymmetric}
use Rattle.std.specs.List.{HoldsAt}
use Rattle.std.specs.List.Sorted.{IsNonDecreasingBy, IsPartitionPoint}
use Rattle.std.specs.Ordering.{ordering_index}
use Rattle.std.proofs.lemmas.Bool.{and_parts, cases_lt}
use Rattle.std.proofs.lemmas.List.{get_or_default}
use Rattle.std.proofs.lemmas.Cmp.{nat_list_cmp_total, tied_itself}
use Rattle.call_core.specs.declared.function.Function.{Function}
use Rattle.kind_table.specs.Names.{function_name, in_order}
use Rattle.kind_table.proofs.Complete.{text, have_names, in_order_has_names, in_order_ascends, contained}
use Rattle.kind_table.proofs.Ascending.{by_bytes, above, rises}

named_at : (kinds : List Function) → have_names kinds ≡ true → (i : ℕ) (d : Function) → i < length kinds → is_some (function_name (get_or kinds i d)) ≡ true
named_at [] h i d below = absurd (omega arith)
named_at (kind ∷ kinds) h zero d below = (and_parts (is_some (function_name kind)) (have_names kinds) h).0
named_at (kind ∷ kinds) h (suc i) d below = named_at kinds (and_parts (is_some (function_name kind)) (have_names kinds) h).1 i d (omega arith)

text_is : (name : Option (List ℕ)) → is_some name ≡ true → name ≡ Some (unwrap_or name [])
text_is None h = cc
text_is (Some name) h = refl

-- two places with one name are one place
same_place : (i j : ℕ) (d : Function) → i < length in_order → j < length in_order → text (get_or in_order i d) ≡ text (get_or in_order j d) → i ≡ j
same_place i j d first second same =
    ⊎_elim
    (λ (before : i < j). absurd (let less = above in_order in_order_ascends i j d before second in let tied = tied_itself nat_list_cmp_total (text (get_or in_order j d)) in let less' = rw same at less in cc))
    (λ (after : j ≤ i). ⊎_elim
    (λ (before : j < i). absurd (let less = above in_order in_order_ascends j i d before first in let tied = tied_itself nat_list_cmp_total (text (get_or in_order j d)) in let less' = rw same at less in cc))
    (λ (last : i ≤ j). omega arith)
    (cases_lt j i))
    (cases_lt i j)

text_of_named : (kind : Function) (name : List ℕ) → function_name kind ≡ Some name → text kind ≡ name
text_of_named kind name h = ap (λ o. unwrap_or o []) h

module _ (order : List Function) (is : order ≡ in_order) (name : List ℕ) where
  -- against the name, the answers rise
  pub rising : IsNonDecreasingBy (λ kind. ordering_index (by_bytes (text kind) name)) order
  rising = rises order (rw is in_order_ascends) name

  -- an equal name is the name of its kind alone
  pub found : (place : ℕ) (d : Function) → place < length order → HoldsAt (λ kind. by_bytes (text kind) name ≡ Equal) order place → (kind : Function) → (Some (get_or order place d) ≡ Some kind) ↔ (function_name kind ≡ Some name)
  found place d below equal kind =
      let e : get_or order place d ≡ get_or in_order place d = rw is in
      let inside : place < length in_order = omega (arith, ap length is) in
      let there : text (get_or in_order place d) ≡ name = rw e at (slice_cmp-IsAntisymmetric nat_cmp-IsAntisymmetric (text (get_or order place d)) name (equal d)) in
      let named : function_name (get_or in_order place d) ≡ Some (text (get_or in_order place d)) =
      text_is (function_name (get_or in_order place d)) (named_at in_order in_order_has_names place d inside) in (
        λ (h : Some (get_or order place d) ≡ Some kind). cc,
        λ (h : function_name kind ≡ Some name).
            let at = contained kind name h in
            let here : get_or in_order at.0 d ≡ kind = get_or_default in_order at.0 d kind at.1 ∙ at.2 in
            let mine : text (get_or in_order at.0 d) ≡ name = ap text here ∙ text_of_named kind name h in
            let same : at.0 ≡ place = same_place at.0 place d at.1 inside (mine ∙ sym there) in
            let back : get_or in_order place d ≡ kind = rw same at here in
            cc,
      )

  -- where every name is below or above, no kind has it
  pub missing : (i : ℕ) → IsPartitionPoint (λ kind. by_bytes (text kind) name ≡ Less) (λ kind. by_bytes (text kind) name ≡ Greater) order i → (kind : Function) → (None ≡ Some kind) ↔ (function_name kind ≡ Some name)
  missing i parts kind = (
    λ (h : None ≡ Some kind). cc,
    λ (h : function_name kind ≡ Some name).
        let at = contained kind name h in
        let inside : at.0 < length order = omega (arith, ap length is, at.1) in
        let here : get_or order at.0 kind ≡ kind = rw is at.2 in
        let mine : text kind ≡ name = text_of_named kind name h in
        let tied : by_bytes name name ≡ Equal = tied_itself nat_list_cmp_total name in
        let reads : by_bytes (text (get_or order at.0 kind)) name ≡ Equal = rw (here, mine) tied in
        ⊎_elim
        (λ (before : at.0 < i). let less = parts.0 at.0 kind (omega arith) before in cc)
        (λ (after : i ≤ at.0). let greater = parts.1 at.0 kind after inside in cc)
        (cases_lt at.0 i),
  )
