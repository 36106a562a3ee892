-- How `Boxed` stores its value, for a type that leads back to itself through a `Boxed`:
--   the_former        one value, and nothing beside it
--   the_weighed       as deep as that value
--   the_places        the layout and what is owned and lent go along with a map of the value
--   the_codes_placed  so does the code
use mathlib.Core.Path.{refl}
use mathlib.Core.Former.{Former, this, const, pair, via}
use base.Stored.{gnil}
use base.Fml.{ftrue}
use denote.RattleType.{RattleType}
use denote.Memory.{part_of}
use denote.RawPtr.{Ptr}
use denote.Sharing.{nothing}
use denote.HoleLaws.{Alike}
use denote.HolePlaces.{Recodes, struct_places, laid, one_value}
use denote.Hole.Fix.{over}
use denote.Param.Weighed.{Weighed}
use denote.Model.Placed.{view_places}
use Rattle.std.specs.declared.boxed.Box.{Box}
use Rattle.std.specs.contracts.boxed.Box as std_box
use Rattle.std.specs.declared.alloc.Global.{Global}
use Rattle.std.specs.contracts.alloc.Global as std_global
use Rattle.std.specs.contracts.impls.GlobalAllocator.TheImpl.{ghosts}
use Rattle.own_items.specs.declared.boxed.Boxed.TheInside.{Inside}
use Rattle.own_items.specs.declared.boxed.Boxed.TheView.{view, invariant}
use Rattle.own_items.specs.contracts.boxed.Boxed as owner
use Rattle.own_items.specs.contracts.boxed.Boxed.TheInside as inner

abbrev pub the_former : Former {0} → Former {0}
the_former held = held

abbrev pub the_weighed : {held : Former {0}} → Weighed held → Weighed (the_former held)
the_weighed weight = weight

-- the fields: a pointer and an allocator, which hold no value, and the value
abbrev fields : Former {0}
fields = via (pair (const (Ptr × Global)) this) Inside (λ X o. ((o.held.ptr, o.held.alloc), o.held.value))
    (λ X parts. record { held = record { ptr = parts.0.0; alloc = parts.0.1; value = parts.1 } }) (λ X o. refl) (λ X parts. refl)

-- the same box around another value
abbrev around : {X Y : Type 0} → Box X Global → Y → Box Y Global
around b y = record { ptr = b.ptr; alloc = b.alloc; value = y }

abbrev box_row : RattleType → RattleType
box_row R = std_box.the_row R std_global.the_row ghosts

module _ (R S : RattleType) (h : R.Denot → S.Denot) where
  box_places : Alike R S h → Alike (box_row R) (box_row S) (λ b. around b (h b.value))
  unfolding part_of
  box_places alike = record {
    mir_same = λ i. (box_row (one_value R (alike.mir_same i) (λ _. ftrue) (λ _ _. nothing) gnil)).mir;
    own_same = λ b i. (box_row (one_value R (alike.mir_same i) (alike.own_same b.value i) (alike.shr_same b.value i) gnil)).own_val (around b tt);
    shr_same = λ b i. (box_row (one_value R (alike.mir_same i) (alike.own_same b.value i) (alike.shr_same b.value i) gnil)).shr_at (around b tt);
  }

  pub the_places : Alike R S h → Alike (owner.the_row R) (owner.the_row S) ((the_former this).map R.Denot S.Denot h)
  the_places alike = view_places fields this view (λ X Y k o. refl) (λ X o. refl) R.Denot S.Denot h (owner.the_row R).coded (owner.the_row S).coded
      (invariant R.Denot) (invariant S.Denot) (λ o p q. refl) (λ o p q. refl) (λ o e. tt) (λ o e. tt)
      (over (inner.the_row R)) (over (inner.the_row S))
      (struct_places (inner.the_type R) (inner.the_type S) ((λ b. around b (h b.value)), tt) _ (λ d. refl) refl (laid _ _ _ (box_places alike), tt))

  pub the_codes_placed : Recodes R S h → Recodes (owner.the_row R) (owner.the_row S) ((the_former this).map R.Denot S.Denot h)
  the_codes_placed same d = same d
