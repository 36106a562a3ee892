-- Drops one after the other.
--   Follows    what is known of a formula once the `@`s over these places were dropped in this order, each of which could go
--   IsSweep    what comes of trying the first so many places of a list in their order, and whether one was dropped: none of them can go
--              where none was
--   IsSettled  what comes of trying them until none of the listed places can go
use Rattle.std.specs.Prelude.{◌≡◌, ℕ, ◌<◌, Bool, true, false, List, [], ◌∷◌, length, nat_lt, Some, slice_get}
use Rattle.kind_table.specs.Table.{Table}
use Rattle.tree_core.specs.Place.{Place}
use Rattle.import_core.specs.declared.rule.ImportRule.{ImportRule}
use Rattle.mark_core.specs.declared.mark.Mark.{Mark}
use Rattle.mark_core.specs.Drop.{can_drop, commit_of}

abbrev pub Follows : ImportRule → Table → Bool → (old new : Mark) → List Place → Type 0
Follows which table wanted old new [] = new ≡ old
Follows which table wanted old new (place ∷ places) = (can_drop which table wanted old place ≡ true) × Follows which table wanted (commit_of table old place) new places

pub record IsSweep (which : ImportRule) (table : Table) (wanted : Bool) (old new : Mark) (places : List Place) (count : ℕ) (dropped : Bool) : Type 0 where
  pub done : List Place
  pub follows : Follows which table wanted old new done
  pub told : dropped ≡ nat_lt 0 (length done)
  pub none_can : dropped ≡ false → (k : ℕ) (place : Place) → k < count → slice_get places k ≡ Some place → can_drop which table wanted new place ≡ false

pub record IsSettled (which : ImportRule) (table : Table) (wanted : Bool) (old new : Mark) (places : List Place) : Type 0 where
  pub done : List Place
  pub follows : Follows which table wanted old new done
  pub none_can : (k : ℕ) (place : Place) → slice_get places k ≡ Some place → can_drop which table wanted new place ≡ false
