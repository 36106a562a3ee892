-- What holds of a formula that was imported.
--   ImportSettles  importing it again changes nothing, by both rules and every lawful table
use Rattle.std.specs.Prelude.{◌≡◌, Bool}
use Rattle.kind_table.specs.Table.{Table, IsLawful}
use Rattle.tree_core.specs.Tree.{Tree}
use Rattle.import_core.specs.declared.rule.ImportRule.{ImportRule}
use Rattle.import_core.specs.ImportOf.{import_of}
use Rattle.import_core.specs.ImportRule.{import_rule}

abbrev pub ImportSettles : Type 0
ImportSettles = (which : ImportRule) (table : Table) → IsLawful table → (add : Bool) (given : Tree)
    → import_of (import_rule which table) add (import_of (import_rule which table) add given) ≡ import_of (import_rule which table) add given
