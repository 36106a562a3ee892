-- The form of a node, from the forms of its parts.
use Rattle.std.proofs.Common.{◌≡◌, ℕ, List, [], ◌∷◌, ◌++◌, map, refl, sym, ap, ap₂, ◌∙◌}
use Rattle.tree_core.specs.Formula.{tree_of}
use Rattle.tree_core.specs.Tree.{tree, Trees, none, more, forest}
use Rattle.tree_core.specs.View.{Here, bare, at, over, here_in, parts_in, tree_in}
use Rattle.tree_core.specs.declared.node.Node.{Node}
use Rattle.tree_core.specs.declared.view.View.{View}
use Rattle.tree_core.proofs.Views.{Fits, fits}
use Rattle.value_json.specs.Piece.{tagged_list}
use Rattle.formula_json.specs.Tags.{here_name}
use Rattle.formula_json.specs.Formula.{here_own, data_of, all_data, node_data}

data-over : (h : Here) (ts : Trees) → Fits h ts → data_of (over h ts) ≡ tagged_list (here_name h) (here_own h ++ all_data ts)
data-over (bare label) ts f = refl
data-over (at automatic) none f = absurd f
data-over (at automatic) (more (tree run label ts) none) f = refl
data-over (at automatic) (more t (more u ts)) f = absurd f

all_data-forest : (nodes : List Node) → all_data (forest (map tree_of nodes)) ≡ map node_data nodes
all_data-forest [] = refl
all_data-forest (node ∷ nodes) = ap (λ forms. node_data node ∷ forms) (all_data-forest nodes)

pub data-view : (node : Node) (v : View) (tag : List ℕ) → tag ≡ here_name (here_in v) → tree_of node ≡ tree_in v → node_data node ≡ tagged_list tag (here_own (here_in v) ++ map node_data (parts_in v))
data-view node v tag t e =
    ap data_of e ∙ data-over (here_in v) (forest (map tree_of (parts_in v))) (fits v)
    ∙ ap₂ (λ tag forms. tagged_list tag (here_own (here_in v) ++ forms)) (sym t) (all_data-forest (parts_in v))
