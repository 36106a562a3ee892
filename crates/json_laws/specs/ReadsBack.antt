-- That a written formula reads back.
--   WrittenFormulaReadsBack  a formula in range is what its JSON form is read as
use Rattle.std.specs.Prelude.{◌≡◌, Some}
use Rattle.tree_core.specs.Formula.{tree_of}
use Rattle.tree_core.specs.declared.node.Node.{Node}
use Rattle.formula_json.specs.Formula.{node_of, node_data}
use Rattle.json_laws.specs.InRange.{InRange}

abbrev pub WrittenFormulaReadsBack : Type 0
WrittenFormulaReadsBack = (node : Node) → InRange (tree_of node) → node_of (node_data node) ≡ Some (tree_of node)
