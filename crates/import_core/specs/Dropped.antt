-- A formula with `@`s dropped.
--   IsSubsequence  a run with none, some or all flags of another left out
--   Dropped        a formula with `@`s of another dropped, none at all included
--   OneDropped     with exactly one dropped
use Rattle.std.specs.Prelude.{◌≡◌, ◌+◌, [], ◌∷◌, ⊤, ◌⊎◌}
use Rattle.tree_core.specs.Tree.{Run, Tree, skeleton}
use Rattle.tree_core.specs.Place.{Place, run_at}
use Rattle.tree_core.specs.Count.{ats_of}

abbrev pub IsSubsequence : Run → Run → Type 0
IsSubsequence [] run = ⊤
IsSubsequence (flag ∷ part) [] = ⊥
IsSubsequence (flag ∷ part) (next ∷ run) = ((flag ≡ next) × IsSubsequence part run) ⊎ IsSubsequence (flag ∷ part) run

pub record Dropped (formula whole : Tree) : Type 0 where
  pub same_skeleton : skeleton formula ≡ skeleton whole
  pub runs : (place : Place) → IsSubsequence (run_at formula place) (run_at whole place)

pub record OneDropped (formula whole : Tree) : Type 0 where
  pub dropped : Dropped formula whole
  pub one_fewer : ats_of whole ≡ ats_of formula + 1
