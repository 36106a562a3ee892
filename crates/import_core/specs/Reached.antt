-- How far import goes.
--   IsOpen     import goes on below a place: it enters the node there, and no `@` over it stays
--   IsReached  import goes on below each place properly above
use Rattle.std.specs.Prelude.{◌≡◌, ℕ, [], ◌∷◌, ◌++◌, Bool, false, ◌⊎◌}
use Rattle.tree_core.specs.Tree.{Tree}
use Rattle.tree_core.specs.Place.{Place, run_at}
use Rattle.import_core.specs.Rule.{Rule, IsWantedRange, closed_at}

pub record IsOpen (rule : Rule) (add : Bool) (t : Tree) (place : Place) : Type 0 where
  pub entered : closed_at rule t place ≡ false
  -- the place is bare, or its `@` is the one that import puts there
  pub replaced : (run_at t place ≡ []) ⊎ IsWantedRange rule add t place

abbrev pub IsReached : Rule → Bool → Tree → Place → Type 0
IsReached rule add t place = (above : Place) (i : ℕ) (rest : Place) → place ≡ above ++ i ∷ rest → IsOpen rule add t above
