-- The request that bytes are: a JSON object with these keys, the first four of which it must have.
--
-- `Asked`       what a request asks for: what the book holds, the formula's cell, the formula; what is known of number formats, the
--               locale; the rule of import and the limit of cells
-- `asking`      the same, of its three parts
-- `asked_in`    what a JSON value asks for
-- `request_of`  what bytes ask for
-- `asked_of`    what a request asks for that was read
-- `formula_of`  the formula alone that bytes are
use Rattle.std.specs.Prelude.{ℕ, List, map, Option, Some}
use Rattle.serde_json.specs.Data.{Data}
use Rattle.value_core.specs.declared.position.CellReferenceIndex.{CellReferenceIndex}
use Rattle.book_core.specs.Contents.{Contents}
use Rattle.book_core.specs.Held.{contents_of}
use Rattle.tree_core.specs.Formula.{tree_of}
use Rattle.tree_core.specs.Tree.{Tree}
use Rattle.units_core.specs.Formats.{parts_of}
use Rattle.units_core.specs.declared.formats.FirstPart.{FirstPart}
use Rattle.units_core.specs.declared.locale.Locale.{Locale}
use Rattle.option_json.specs.Options.{options_in}
use Rattle.option_json.specs.declared.options.Options.{Options}
use Rattle.value_json.specs.Fields.{◌>>=◌}
use Rattle.value_json.specs.Objects.{has_only}
use Rattle.request_core.specs.Question.{formula_in, question_in}
use Rattle.request_core.specs.Showing.{showing_in}
use Rattle.request_core.specs.Text.{data_of}
use Rattle.request_core.specs.declared.request.Request.{Request}
use Rattle.request_core.specs.declared.request.TheConstants.{KEYS}

pub record Asked : Type 0 where
  pub book : Contents
  pub cell : CellReferenceIndex
  pub formula : Tree
  pub first_part : List ℕ → FirstPart
  pub locale : Locale
  pub options : Options

abbrev pub asking : Contents × CellReferenceIndex × Tree → (List ℕ → FirstPart) × Locale → Options → Asked
asking question showing options = record {
  book = question.0;
  cell = question.1;
  formula = question.2;
  first_part = showing.0;
  locale = showing.1;
  options = options;
}

unfoldable pub asked_in : Data → Option Asked
asked_in datum = do
  known ← has_only (map (λ key. key.now) KEYS) datum
  question ← question_in datum
  showing ← showing_in datum
  options ← options_in datum
  Some (asking question showing options)

unfoldable pub request_of : List ℕ → Option Asked
request_of bytes = do
  datum ← data_of bytes
  asked_in datum

abbrev pub asked_of : Request → Asked
asked_of request = asking (contents_of request.book, request.cell, tree_of request.formula) (parts_of request.formats, request.locale) request.options

unfoldable pub formula_of : List ℕ → Option Tree
formula_of bytes = do
  datum ← data_of bytes
  formula_in datum
