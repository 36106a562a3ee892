-- The parts of an answer.
--   AreFormulas   the imported formula, and an export of it
--   AreShapes     the shapes of the given and of the imported formula
--   AreValues     their values in a setting; AreRectangles, that these are
--   AreWritten    the formulas and the shapes
--   AreMeant      the values, which are rectangles, and the display unit
--   formula_questions   how often the table of kinds is asked for the formulas at most
use Rattle.std.specs.Prelude.{◌≡◌, ℕ, ◌+◌, ◌*◌, true}
use Rattle.rectangle_core.specs.Rectangle.{IsRectangle}
use Rattle.kind_table.specs.Table.{Table}
use Rattle.tree_core.specs.Count.{ats_of, calls_of}
use Rattle.tree_core.specs.Formula.{tree_of}
use Rattle.tree_core.specs.Tree.{Tree}
use Rattle.shape_core.specs.Shape.{shape}
use Rattle.import_core.specs.declared.rule.ImportRule.{ImportRule}
use Rattle.import_core.specs.ImportRule.{import_rule}
use Rattle.import_core.specs.ImportOf.{import_of}
use Rattle.import_core.specs.Imported.{Imported}
use Rattle.import_core.specs.Exported.{Exported}
use Rattle.eval_core.specs.Meaning.{mean}
use Rattle.eval_core.specs.Setting.{Setting}
use Rattle.answer_core.specs.declared.answer.Formulas.{Formulas}
use Rattle.answer_core.specs.declared.answer.Shapes.{Shapes}
use Rattle.answer_core.specs.declared.answer.Values.{Values}
use Rattle.answer_core.specs.declared.answer.Meant.{Meant}
use Rattle.answer_core.specs.declared.answer.Written.{Written}
use Rattle.answer_core.specs.Shown.{Shown, unit_setting}
use Rattle.units_core.specs.Unit as units

pub record AreFormulas (rule : ImportRule) (table : Table) (formula : Tree) (made : Formulas) : Type 0 where
  pub import : Imported (import_rule rule table) true formula (tree_of made.imported)
  pub export : Exported (import_rule rule table) true (tree_of made.imported) (tree_of made.exported)

pub record AreShapes (table : Table) (given imported : Tree) (made : Shapes) : Type 0 where
  pub given_is : made.given ≡ shape table given
  pub imported_is : made.imported ≡ shape table imported

pub record AreValues (here : Setting) (given imported : Tree) (made : Values) : Type 0 where
  pub spilled_is : made.spilled ≡ mean here given
  pub legacy_is : made.legacy ≡ mean here imported

pub record AreRectangles (made : Values) : Type 0 where
  pub spilled_is : IsRectangle made.spilled
  pub legacy_is : IsRectangle made.legacy

pub record AreWritten (rule : ImportRule) (table : Table) (formula : Tree) (made : Written) : Type 0 where
  pub import : Imported (import_rule rule table) true formula (tree_of made.imported)
  pub export : Exported (import_rule rule table) true (tree_of made.imported) (tree_of made.exported)
  pub given_shape : made.given_shape ≡ shape table formula
  pub imported_shape : made.imported_shape ≡ shape table (tree_of made.imported)

pub record AreMeant (here : Setting) (shown : Shown) (given imported : Tree) (made : Meant) : Type 0 where
  pub spilled_is : made.spilled ≡ mean here given
  pub legacy_is : made.legacy ≡ mean here imported
  pub unit_is : made.unit ≡ units.unit_of (unit_setting here shown) given
  pub spilled_rectangle : IsRectangle made.spilled
  pub legacy_rectangle : IsRectangle made.legacy

abbrev pub questions_for : (calls ats : ℕ) → ℕ
questions_for calls ats = 2 * calls * ((ats + 1) * (ats + 1) + 1)

abbrev pub formula_questions : ImportRule → Table → Tree → ℕ
formula_questions rule table formula = questions_for (calls_of formula) (ats_of (import_of (import_rule rule table) true formula))
