-- A formula whose import is the imported one.
--   ComesBack  the import of a formula is the imported one, flags aside
use Rattle.std.specs.Prelude.{Bool}
use Rattle.kind_table.specs.Table.{Table}
use Rattle.tree_core.specs.Flags.{Alike}
use Rattle.tree_core.specs.Tree.{Tree}
use Rattle.import_core.specs.declared.rule.ImportRule.{ImportRule}
use Rattle.import_core.specs.ImportOf.{import_of}
use Rattle.import_core.specs.ImportRule.{import_rule}

abbrev pub ComesBack : ImportRule → Table → Bool → (import formula : Tree) → Type 0
ComesBack which table add import formula = Alike (import_of (import_rule which table) add formula) import
