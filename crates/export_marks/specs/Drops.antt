-- What holds of a formula that comes back, and of each `@` of it that import reaches, by both rules and every lawful table.
--   DropsNeverLower    a drop after which the formula still comes back doesn't lower its shape
--   TurningIsConstant  where one value comes to be wanted of a formula that comes back, it still does exactly if the imported one
--                      is its own import there: what it does then is a constant of the imported formula
--   TrialsTell         whether a formula comes back after a drop is told by `fits`
--   TrialsSuffice      where no such drop fits, the formula is an export
use Rattle.std.specs.Prelude.{◌≡◌, ◌↔◌, Bool, true, false}
use Rattle.kind_table.specs.Shape.{IsAtMost}
use Rattle.kind_table.specs.Table.{Table, IsLawful}
use Rattle.tree_core.specs.Tree.{Tree}
use Rattle.tree_core.specs.Place.{Place}
use Rattle.shape_core.specs.Shape.{shape}
use Rattle.import_core.specs.declared.rule.ImportRule.{ImportRule}
use Rattle.import_core.specs.ComesBack.{ComesBack}
use Rattle.import_core.specs.Dropped.{Dropped}
use Rattle.import_core.specs.Exported.{Exported}
use Rattle.import_core.specs.ImportRule.{import_rule}
use Rattle.export_marks.specs.Bared.{bared}
use Rattle.export_marks.specs.Trial.{IsWay, fits}

abbrev pub DropsNeverLower : Type 0
DropsNeverLower = (which : ImportRule) (table : Table) → IsLawful table → (add : Bool) (import formula : Tree) (place : Place) → IsWay which table add formula import place
    → ComesBack which table add import formula → ComesBack which table add import (bared formula place) → IsAtMost (shape table formula) (shape table (bared formula place))

abbrev pub TurningIsConstant : Type 0
TurningIsConstant = (which : ImportRule) (table : Table) → IsLawful table → (import formula : Tree) → ComesBack which table false import formula
    → ComesBack which table true import formula ↔ ComesBack which table true import import

abbrev pub TrialsTell : Type 0
TrialsTell = (which : ImportRule) (table : Table) → IsLawful table → (add : Bool) (import formula : Tree) (place : Place) → IsWay which table add formula import place
    → ComesBack which table add import formula → ComesBack which table add import (bared formula place) ↔ (fits which table add formula import place ≡ true)

abbrev pub TrialsSuffice : Type 0
TrialsSuffice = (which : ImportRule) (table : Table) → IsLawful table → (add : Bool) (import formula : Tree) → Dropped formula import → ComesBack which table add import formula
    → ((place : Place) → IsWay which table add formula import place → fits which table add formula import place ≡ false) → Exported (import_rule which table) add import formula
