-- The formula that marks tell of.
--   left_of       a formula without the runs over its nodes that are marked as bare, but for those inside of a node that import does not
--                 enter
--   left_of_part  so of a part, which stays as it is without a mark
--   left_of_trees, left_of_all  so of some parts, by their marks in their order
use Rattle.std.specs.Prelude.{List, [], ◌∷◌, Option, None, Some, if◌then◌else◌}
use Rattle.tree_core.specs.Tree.{Tree, tree, Trees, none, more}
use Rattle.import_core.specs.ImportRule.{is_closed}
use Rattle.mark_core.specs.declared.mark.Mark.{Mark}
use Rattle.mark_core.specs.Mark.{known_of, parts_of}

abbrev mutual
  pub left_of : Tree → Mark → Tree
  left_of (tree run label ts) mark = tree (if (known_of mark).bare then [] else run) label (if is_closed label then ts else left_of_trees ts (parts_of mark))

  pub left_of_trees : Trees → List Mark → Trees
  left_of_trees none marks = none
  left_of_trees (more t ts) [] = more t ts
  left_of_trees (more t ts) (mark ∷ marks) = more (left_of t mark) (left_of_trees ts marks)

abbrev pub left_of_part : Tree → Option Mark → Tree
left_of_part t None = t
left_of_part t (Some mark) = left_of t mark

abbrev pub left_of_all : List Tree → List Mark → List Tree
left_of_all [] marks = []
left_of_all (t ∷ ts) [] = t ∷ ts
left_of_all (t ∷ ts) (mark ∷ marks) = left_of t mark ∷ left_of_all ts marks
