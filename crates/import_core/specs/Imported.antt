-- What import makes of a formula.
--   merged_run      the last flag of a run alone; no flag of an empty run
--   ImportedAt  the run at one place
--   Imported    the skeleton stays, and each place has its run
use Rattle.std.specs.Prelude.{◌≡◌, [], ◌∷◌, Bool, true}
use Rattle.tree_core.specs.Tree.{Run, Tree, skeleton}
use Rattle.tree_core.specs.Place.{Place, run_at}
use Rattle.import_core.specs.Rule.{Rule, IsWantedRange}
use Rattle.import_core.specs.Reached.{IsReached}

abbrev pub merged_run : Run → Run
merged_run [] = []
merged_run (flag ∷ []) = flag ∷ []
merged_run (outer ∷ flag ∷ run) = merged_run (flag ∷ run)

pub record ImportedAt (rule : Rule) (add : Bool) (given imported : Tree) (place : Place) : Type 0 where
  -- one automatic `@` over a range-like node where one value is wanted
  pub inserted : IsReached rule add given place → IsWantedRange rule add given place → run_at imported place ≡ true ∷ []
  -- any other run is merged
  pub merges : IsReached rule add given place → ¬ IsWantedRange rule add given place → run_at imported place ≡ merged_run (run_at given place)
  -- nothing changes where import doesn't reach
  pub stays : ¬ IsReached rule add given place → run_at imported place ≡ run_at given place

pub record Imported (rule : Rule) (add : Bool) (given imported : Tree) : Type 0 where
  pub same_skeleton : skeleton imported ≡ skeleton given
  pub runs : (place : Place) → ImportedAt rule add given imported place
