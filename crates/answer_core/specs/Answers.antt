-- What an answer says of a formula.
--   Answers         in a setting and by a rule of import, where one value is wanted of the whole: one formula is the imported one,
--                   and the other an export of it; the shapes and the values are those of the given and of the imported formula;
--                   the display unit is that of the given one
--   FitTheirShapes  both values are rectangles; that of the given formula is no larger than the given shape says, and that of the
--                   imported one no larger than the imported shape
--   most_questions  how often the table of kinds is asked at most
use Rattle.std.specs.Prelude.{◌≡◌, ℕ, ◌+◌, ◌*◌, true}
use Rattle.rectangle_core.specs.Rectangle.{height, IsRectangle, width}
use Rattle.kind_table.specs.Fit.{SizeFits}
use Rattle.kind_table.specs.Table.{Table}
use Rattle.tree_core.specs.Count.{ats_of, calls_of}
use Rattle.tree_core.specs.Formula.{tree_of}
use Rattle.tree_core.specs.Tree.{Tree}
use Rattle.shape_core.specs.Shape.{shape}
use Rattle.import_core.specs.declared.rule.ImportRule.{ImportRule}
use Rattle.import_core.specs.ImportRule.{import_rule}
use Rattle.import_core.specs.ImportOf.{import_of}
use Rattle.import_core.specs.Imported.{Imported}
use Rattle.import_core.specs.Exported.{Exported}
use Rattle.eval_core.specs.Meaning.{mean}
use Rattle.eval_core.specs.Setting.{Setting}
use Rattle.units_core.specs.Unit as units
use Rattle.print_core.specs.declared.answer.Answer.{Answer}
use Rattle.answer_core.specs.Shown.{Shown, unit_setting}

pub record Answers (rule : ImportRule) (here : Setting) (shown : Shown) (formula : Tree) (answer : Answer) : Type 0 where
  pub import : Imported (import_rule rule here.table) true formula (tree_of answer.imported)
  pub export : Exported (import_rule rule here.table) true (tree_of answer.imported) (tree_of answer.exported)
  pub given_shape : answer.given_shape ≡ shape here.table formula
  pub imported_shape : answer.imported_shape ≡ shape here.table (tree_of answer.imported)
  pub spilled : answer.spilled ≡ mean here formula
  pub legacy : answer.legacy ≡ mean here (tree_of answer.imported)
  pub unit : answer.unit ≡ units.unit_of (unit_setting here shown) formula

pub record FitTheirShapes (answer : Answer) : Type 0 where
  pub spilled_is : IsRectangle answer.spilled
  pub legacy_is : IsRectangle answer.legacy
  pub spilled_fits : SizeFits answer.given_shape (height answer.spilled) (width answer.spilled)
  pub legacy_fits : SizeFits answer.imported_shape (height answer.legacy) (width answer.legacy)

abbrev pub questions : (calls ats : ℕ) → ℕ
questions calls ats = 2 * calls * ((ats + 1) * (ats + 1) + 2)

abbrev pub most_questions : ImportRule → Table → Tree → ℕ
most_questions rule table formula = questions (calls_of formula) (ats_of (import_of (import_rule rule table) true formula))
