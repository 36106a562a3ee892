-- What holds of each export of a formula.
--   ExportsComeBack  its import is the formula again, flags aside, by every rule
use Rattle.std.specs.Prelude.{Bool}
use Rattle.tree_core.specs.Tree.{Tree}
use Rattle.tree_core.specs.Flags.{Alike}
use Rattle.import_core.specs.Rule.{Rule}
use Rattle.import_core.specs.Exported.{Exported}
use Rattle.import_core.specs.ImportOf.{import_of}

abbrev pub ExportsComeBack : Type 0
ExportsComeBack = (rule : Rule) (add : Bool) (import export : Tree) → Alike (import_of rule add import) import → Exported rule add import export
    → Alike (import_of rule add export) import
