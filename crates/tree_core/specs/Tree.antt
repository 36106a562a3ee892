-- Formulas apart from memory.
--   Run       the `automatic` flags of the `@`s that stand directly over a node, outermost first
--   Tree      a node: the run over it, its label and its children
--   Trees     some trees in a row
--   forest    the trees of a list
--   run_of, label_of, children_of   the parts of a tree
--   under     a tree with one more `@` over it
--   skeleton  the tree without its `@`s
use Rattle.std.specs.Prelude.{Bool, List, [], ◌∷◌}
use Rattle.tree_core.specs.Label.{Label}

abbrev pub Run : Type 0
Run = List Bool

mutual
  pub data Tree : Type 0 where
    tree : Run → Label → Trees → Tree

  pub data Trees : Type 0 where
    none : Trees
    more : Tree → Trees → Trees

abbrev pub forest : List Tree → Trees
forest [] = none
forest (t ∷ ts) = more t (forest ts)

abbrev pub run_of : Tree → Run
run_of (tree run label children) = run

abbrev pub label_of : Tree → Label
label_of (tree run label children) = label

abbrev pub children_of : Tree → Trees
children_of (tree run label children) = children

abbrev pub under : Bool → Tree → Tree
under automatic (tree run label children) = tree (automatic ∷ run) label children

abbrev mutual
  pub skeleton : Tree → Tree
  skeleton (tree run label children) = tree [] label (skeletons children)

  pub skeletons : Trees → Trees
  skeletons none = none
  skeletons (more t ts) = more (skeleton t) (skeletons ts)
