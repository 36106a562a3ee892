-- Formulas that are one but for the flags of their `@`s.
--   Alike      two trees have one skeleton, and at each place runs of one length
--   told       a tree, its flags told or not: where not, each is set. told_here, what stands at a node
use Rattle.std.specs.Prelude.{◌≡◌, Bool, true, false, length, map}
use Rattle.tree_core.specs.Tree.{Run, Tree, tree, Trees, none, more, skeleton}
use Rattle.tree_core.specs.Place.{Place, run_at}
use Rattle.tree_core.specs.View.{Here, bare, at}

abbrev pub Alike : Tree → Tree → Type 0
Alike a b = (skeleton a ≡ skeleton b) × ((place : Place) → length (run_at a place) ≡ length (run_at b place))

abbrev pub told_flag : Bool → Bool → Bool
told_flag true automatic = automatic
told_flag false automatic = true

abbrev pub told_run : Bool → Run → Run
told_run flags = map (told_flag flags)

abbrev pub told_here : Bool → Here → Here
told_here flags (bare l) = bare l
told_here flags (at automatic) = at (told_flag flags automatic)

abbrev mutual
  pub told : Bool → Tree → Tree
  told flags (tree run l ts) = tree (told_run flags run) l (all_told flags ts)

  pub all_told : Bool → Trees → Trees
  all_told flags none = none
  all_told flags (more t ts) = more (told flags t) (all_told flags ts)
