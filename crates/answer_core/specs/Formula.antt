-- A formula alone.
--   IsFormulaLine   the bytes are a formula, and the text is the line of its import, by a rule and the table of the crate, where one
--                   value is wanted of the whole, and of an export of that
--   RefusesFormula  why there is no such line: the bytes are no formula, or memory ran out
use Rattle.std.specs.Prelude.{◌≡◌, ℕ, List, Some, None, true, ⊤}
use Rattle.kind_table.specs.CrateTable.{crate_table}
use Rattle.tree_core.specs.Formula.{tree_of}
use Rattle.tree_core.specs.Tree.{Tree}
use Rattle.tree_core.specs.declared.node.Node.{Node}
use Rattle.import_core.specs.declared.rule.ImportRule.{ImportRule}
use Rattle.import_core.specs.ImportRule.{import_rule}
use Rattle.import_core.specs.Imported.{Imported}
use Rattle.import_core.specs.Exported.{Exported}
use Rattle.request_core.specs.Request.{formula_of}
use Rattle.print_core.specs.Answer.{formulas_line}
use Rattle.answer_core.specs.declared.refusal.Refusal.{Refusal}
use Rattle.answer_core.specs.declared.refusal.Refusal.TheVariants.{Usage, ReadFault, TooLong, BadJson, BadRequest, Memory}

pub record IsFormulaLine (rule : ImportRule) (bytes text : List ℕ) : Type 0 where
  pub formula : Tree
  pub is_formula : formula_of bytes ≡ Some formula
  pub imported : Node
  pub exported : Node
  pub import : Imported (import_rule rule crate_table) true formula (tree_of imported)
  pub export : Exported (import_rule rule crate_table) true (tree_of imported) (tree_of exported)
  pub text_is : text ≡ formulas_line exported imported

-- one line for each refusal
abbrev pub RefusesFormula : List ℕ → Refusal → Type 0
RefusesFormula bytes Usage = ⊥
RefusesFormula bytes ReadFault = ⊥
RefusesFormula bytes TooLong = ⊥
RefusesFormula bytes BadJson = formula_of bytes ≡ None
RefusesFormula bytes (BadRequest place) = ⊥
RefusesFormula bytes Memory = ⊤
