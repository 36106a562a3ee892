-- How `Items` stores its values, for a type that leads back to itself through an `Items`:
--   the_former        the values in a row, and nothing beside them
--   the_weighed       as deep as the deepest of them
--   the_empty         there may be none of them
--   the_items, the_items_listed   in this order
--   the_places        the layout and what is owned and lent go along with a map of the values
--   the_codes_placed  so does the code
use mathlib.Core.Path.{◌≡◌, refl, sym}
use mathlib.Core.List.{List, []}
use mathlib.Core.Former.{Former, this, list, via, children}
use base.Stored.{code_map}
use denote.RattleType.{RattleType}
use denote.HoleLaws.{Alike}
use denote.HolePlaces.{Recodes, struct_places, laid}
use denote.Hole.Carrier.{listed, list-listed}
use denote.Hole.Fix.{over}
use denote.Param.Weighed.{Weighed, w_list}
use denote.Model.Placed.{view_places}
use Rattle.std.specs.formers.vec.Vec as std_vec
use Rattle.std.specs.declared.alloc.Global.{Global}
use Rattle.std.specs.contracts.alloc.Global as std_global
use Rattle.std.specs.contracts.impls.GlobalAllocator.TheImpl.{ghosts}
use Rattle.own_items.specs.declared.items.Items.TheInside.{Inside}
use Rattle.own_items.specs.declared.items.Items.TheView.{view, invariant}
use Rattle.own_items.specs.contracts.items.Items as owner
use Rattle.own_items.specs.contracts.items.Items.TheInside as inner

abbrev pub the_former : Former {0} → Former {0}
the_former held = list held

abbrev pub the_weighed : {held : Former {0}} → Weighed held → Weighed (the_former held)
the_weighed weight = w_list weight

pub the_empty : List ⊥
the_empty = []

abbrev pub the_items : (X : Type 0) → List X → List X
the_items X values = values

pub the_items_listed : (X : Type 0) (values : List X) → listed _ (children (the_former this) X values) ≡ the_items X values
the_items_listed X values = list-listed X values

-- the one field, a vector in std's own form
abbrev fields : Former {0}
fields = via (std_vec.the_former this Global) Inside (λ X o. o.held) (λ X vector. record { held = vector }) (λ X o. refl) (λ X vector. refl)

module _ (R S : RattleType) (h : R.Denot → S.Denot) where
  pub the_places : Alike R S h → Alike (owner.the_row R) (owner.the_row S) ((the_former this).map R.Denot S.Denot h)
  the_places alike = view_places fields (list this) view (λ X Y k o. refl) (λ X o. refl) R.Denot S.Denot h (owner.the_row R).coded (owner.the_row S).coded
      (invariant R.Denot) (invariant S.Denot) (λ o p q. refl) (λ o p q. refl) (λ o e. tt) (λ o e. tt)
      (over (inner.the_row R)) (over (inner.the_row S))
      (struct_places (inner.the_type R) (inner.the_type S) (std_vec.mapped h, tt) _ (λ d. refl) refl
      (laid _ _ _ (std_vec.the_places std_global.the_row ghosts R S h alike), tt))

  pub the_codes_placed : Recodes R S h → Recodes (owner.the_row R) (owner.the_row S) ((the_former this).map R.Denot S.Denot h)
  the_codes_placed same values = sym (code_map R.coded.code S.coded.code h (λ x. sym (same x)) values)
