-- What a view shows.
--   Fits, fits   under an `@` stands one node
--   deepest      a part is at most as deep as the deepest
--   part-falls   a part is a smaller formula
--   falls
use Rattle.std.proofs.Common.{◌≡◌, ℕ, zero, suc, ◌<◌, ◌≤◌, List, [], ◌∷◌, Some, map, slice_get, arith}
use denote.Param.Weighed.{most}
use Rattle.tree_core.specs.Formula.{tree_of}
use Rattle.tree_core.specs.Tree.{Trees, none, more, forest}
use Rattle.tree_core.specs.View.{Here, bare, at, here_in, parts_in, Falls}
use Rattle.tree_core.specs.declared.node.Node.{Node, size-Node}
use Rattle.tree_core.specs.declared.view.View.{View}
use Rattle.tree_core.specs.declared.view.View.TheVariants as view

abbrev pub Fits : Here → Trees → Type 0
Fits (bare label) ts = Unit {0}
Fits (at automatic) none = ⊥
Fits (at automatic) (more t none) = Unit {0}
Fits (at automatic) (more t (more u ts)) = ⊥

pub fits : (v : View) → Fits (here_in v) (forest (map tree_of (parts_in v)))
fits (view.Leaf l) = tt
fits (view.Closed c) = tt
fits (view.Unary kind right) = tt
fits (view.Binary operator left right) = tt
fits (view.Spill child) = tt
fits (view.Call kind args) = tt
fits (view.Intersection automatic child) = tt

pub deepest : (parts : List Node) (i : ℕ) (part : Node) → Some part ≡ slice_get parts i → size-Node part ≤ most size-Node parts
deepest [] i part h = cc
deepest (first ∷ parts) zero part h = let e : part ≡ first = cc in rw e (omega arith)
deepest (first ∷ parts) (suc i) part h = let k = deepest parts i part h in omega (arith, k)

pub part-falls : (v : View) (node part : Node) (i : ℕ) → Falls v node → Some part ≡ slice_get (parts_in v) i → size-Node part < size-Node node
part-falls v node part i f h = let k = deepest (parts_in v) i part h in omega (arith, f, k)

pub ruleset falls = (deepest)
