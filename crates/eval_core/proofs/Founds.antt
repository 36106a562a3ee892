-- What formulas come to, from what their parts come to.
--   found_all-forest   each of some arguments
--   found_of-under     a formula under one more `@`
use Rattle.std.proofs.Common.{◌≡◌, Bool, List, [], ◌∷◌, map, refl, ap}
use Rattle.tree_core.specs.Formula.{tree_of}
use Rattle.tree_core.specs.Tree.{Tree, tree, forest, under}
use Rattle.tree_core.specs.declared.node.Node.{Node}
use Rattle.result_core.specs.Finding.{with_reference}
use Rattle.result_core.specs.Intersection.{intersection_found}
use Rattle.eval_core.specs.Meaning.{found_of, found_all}
use Rattle.eval_core.specs.Setting.{Setting}

pub found_all-forest : (here : Setting) (args : List Node) → found_all here (forest (map tree_of args)) ≡ map (λ arg. found_of here (tree_of arg)) args
found_all-forest here [] = refl
found_all-forest here (arg ∷ args) = ap (λ rest. found_of here (tree_of arg) ∷ rest) (found_all-forest here args)

pub found_of-under : (here : Setting) (automatic : Bool) (t : Tree) → found_of here (under automatic t) ≡ intersection_found here.cell (with_reference (found_of here t))
found_of-under here automatic (tree run label ts) = refl

pub ruleset founds = (found_all-forest, found_of-under)
