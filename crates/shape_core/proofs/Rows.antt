-- What arguments show of themselves.
--   shown_at      what an argument shows, by its number
--   rows
use Rattle.std.proofs.Common.{◌≡◌, ℕ, zero, suc, List, [], ◌∷◌, map, length, slice_get, option_map, refl, ap}
use Rattle.tree_core.specs.Formula.{tree_of}
use Rattle.tree_core.specs.Tree.{forest}
use Rattle.tree_core.specs.declared.node.Node.{Node}
use Rattle.shape_core.specs.Shape.{shown, shown_all}

pub shown_at : (args : List Node) (index : ℕ) → slice_get (shown_all (forest (map tree_of args))) index ≡ option_map (λ arg. shown (tree_of arg)) (slice_get args index)
shown_at [] index = refl
shown_at (arg ∷ args) zero = refl
shown_at (arg ∷ args) (suc index) = shown_at args index

pub shown_count : (args : List Node) → length (shown_all (forest (map tree_of args))) ≡ length args
shown_count [] = refl
shown_count (arg ∷ args) = ap suc (shown_count args)

pub ruleset rows = (shown_at, shown_count)
