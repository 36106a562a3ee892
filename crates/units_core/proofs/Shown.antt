-- The unit of a formula, from what its node shows.
--   unit_of-under     there is none under an `@`
--   first-unit, no-unit   the first of some arguments has the unit of the first of them; of none there is none
use Rattle.std.proofs.Common.{◌≡◌, Bool, List, [], ◌∷◌, map, Some, None, refl, ap}
use Rattle.std.specs.Prelude.{slice_get}
use Rattle.tree_core.specs.Formula.{tree_of}
use Rattle.tree_core.specs.Tree.{Tree, tree, forest, under}
use Rattle.tree_core.specs.declared.node.Node.{Node}
use Rattle.units_core.specs.Unit.{Setting, first_of, unit_of, units_of}

pub unit_of-under : (here : Setting) (automatic : Bool) (t : Tree) → unit_of here (under automatic t) ≡ None
unit_of-under here automatic (tree run label ts) = refl

pub first-unit : (here : Setting) (args : List Node) (first : Node) → Some first ≡ slice_get args 0 → unit_of here (tree_of first) ≡ first_of (units_of here (forest (map tree_of args)))
first-unit here [] first h = cc
first-unit here (arg ∷ args) first h = let same : first ≡ arg = cc in ap (λ node. unit_of here (tree_of node)) same

pub ruleset shown = (unit_of-under, first-unit)
