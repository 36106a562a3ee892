-- The kind that has a name, taken as an own kind or as a number.
use Rattle.std.proofs.Common.{◌≡◌, ℕ, List, ◌↔◌, Option, Some, None, sym, ap, ◌∙◌}
use Rattle.call_core.specs.declared.function.Function.{Function}
use Rattle.call_core.specs.declared.function.Function.TheVariants.{Other}
use Rattle.kind_table.proofs.Complete.{other-unnamed}
use Rattle.kind_table.specs.Names.{crate_name, own_name, function_name, own_in, number_in}

number_in-some : (found : Option Function) (id : ℕ) → number_in found ≡ Some id → found ≡ Some (Other id)
number_in-some None id h = cc
number_in-some (Some (Other number)) id h = cc
number_in-some (Some kind) id h = cc

own_in-some : (found : Option Function) (kind : Function) → own_in found ≡ Some kind → found ≡ Some kind
own_in-some None kind h = cc
own_in-some (Some (Other number)) kind h = cc
own_in-some (Some own) kind h = h

own_name-function_name : (kind : Function) (name : List ℕ) → own_name kind ≡ Some name → (function_name kind ≡ Some name) × (own_in (Some kind) ≡ Some kind)
own_name-function_name (Other id) name h = let none = other-unnamed id in cc
own_name-function_name kind name h = (h, cc)

function_name-own_name : (kind : Function) (name : List ℕ) → own_in (Some kind) ≡ Some kind → function_name kind ≡ Some name → own_name kind ≡ Some name
function_name-own_name (Other id) name own h = cc
function_name-own_name kind name own h = h

module _ (found : Option Function) (name : List ℕ) (named : (kind : Function) → (found ≡ Some kind) ↔ (function_name kind ≡ Some name)) where
  pub numbered_by_name : (id : ℕ) → (number_in found ≡ Some id) ↔ (crate_name id ≡ Some name)
  numbered_by_name id = (
    λ (h : number_in found ≡ Some id). (named (Other id)).0 (number_in-some found id h),
    λ (h : crate_name id ≡ Some name). ap number_in ((named (Other id)).1 h),
  )

  pub own_by_name : (kind : Function) → (own_in found ≡ Some kind) ↔ (own_name kind ≡ Some name)
  own_by_name kind = (
    λ (h : own_in found ≡ Some kind).
        let is = own_in-some found kind h in
        function_name-own_name kind name (ap own_in (sym is) ∙ h) ((named kind).0 is),
    λ (h : own_name kind ≡ Some name).
        let both = own_name-function_name kind name h in
        ap own_in ((named kind).1 both.0) ∙ both.1,
  )
