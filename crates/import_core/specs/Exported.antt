-- What export makes of an imported formula.
--   Exported  `@`s are dropped; the import of what is left is the imported formula, flags aside; and of no formula with one `@`
--             fewer it is
use Rattle.std.specs.Prelude.{Bool}
use Rattle.tree_core.specs.Tree.{Tree}
use Rattle.tree_core.specs.Flags.{Alike}
use Rattle.import_core.specs.Rule.{Rule}
use Rattle.import_core.specs.ImportOf.{import_of}
use Rattle.import_core.specs.Dropped.{Dropped, OneDropped}

pub record Exported (rule : Rule) (add : Bool) (import export : Tree) : Type 0 where
  pub dropped : Dropped export import
  pub comes_back : Alike (import_of rule add export) import
  pub least : (further : Tree) → OneDropped further export → ¬ Alike (import_of rule add further) import
