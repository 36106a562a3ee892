-- What is left to pass of the parts, and room for its numbers.
use Rattle.std.proofs.Common.{◌≡◌, ◌+◌, ◌<◌, ◌^◌, map, drop}
use Rattle.tree_core.specs.Count.{size_of_all}
use Rattle.tree_core.specs.Formula.{tree_of}
use Rattle.tree_core.specs.Preorder.{nodes, nodes_of_all}
use Rattle.tree_core.specs.Tree.{forest}
use Rattle.tree_core.specs.View.{parts_in}
use Rattle.validity_core.specs.Good.{is_bad}
use Rattle.validity_core.specs.Place.{passed}
use Rattle.validity_core.proofs.scan.+scan.Given as goal

abbrev pub invariant-loop-index : goal.invariant-loop-index
invariant-loop-index g l = record {
  same : passed (is_bad (g.K.Kinds.table l.kinds) l.sheets) l.next (nodes_of_all (forest (map tree_of (drop l.index (parts_in l.view))))) ≡ passed (is_bad (g.K.Kinds.table l.kinds) l.sheets) l.number (nodes (tree_of l.node));
  room : l.next + size_of_all (forest (map tree_of (drop l.index (parts_in l.view)))) < 2 ^ 64;
}
