-- What every request has.
--
-- `sheets_in`    the names of the sheets: at most 2^32 - 1 texts
-- `formula_in`   the formula: a node, of at most 16777216 nodes in all
-- `question_in`  what the book holds, the formula's cell, and the formula
-- `question_of`  these three of a question that was read
use Rattle.std.specs.Prelude.{ℕ, ◌^◌, List, length, codes, nat_lt, nat_le, if◌then◌else◌, Option, Some, None}
use Rattle.serde_json.specs.Data.{Data}
use Rattle.serde_json.specs.Find.{get}
use Rattle.value_core.specs.declared.position.CellReferenceIndex.{CellReferenceIndex}
use Rattle.book_core.specs.Contents.{Contents}
use Rattle.book_core.specs.Held.{contents_of}
use Rattle.tree_core.specs.Count.{size_of}
use Rattle.tree_core.specs.Formula.{tree_of}
use Rattle.tree_core.specs.Tree.{Tree}
use Rattle.value_json.specs.Fields.{◌>>=◌}
use Rattle.value_json.specs.Texts.{texts_in}
use Rattle.formula_json.specs.Formula.{node_of}
use Rattle.request_core.specs.Cells.{book_with, cells_in, position_in}
use Rattle.request_core.specs.declared.question.Question.{Question}

unfoldable pub sheets_in : Data → Option (List (List ℕ))
sheets_in datum = do
  texts ← texts_in datum
  if nat_lt (length texts) (2 ^ 32) then Some texts else None

unfoldable pub formula_in : Data → Option Tree
formula_in datum = do
  formula ← node_of datum
  if nat_le (size_of formula) 16777216 then Some formula else None

unfoldable pub question_in : Data → Option (Contents × CellReferenceIndex × Tree)
question_in request = do
  sheets ← get (codes "sheets") request >>= sheets_in
  cells ← get (codes "cells") request >>= cells_in (length sheets)
  cell ← get (codes "cell") request >>= position_in
  formula ← get (codes "formula") request >>= formula_in
  Some (book_with sheets cells, cell, formula)

abbrev pub question_of : Question → Contents × CellReferenceIndex × Tree
question_of question = (contents_of question.book, question.cell, tree_of question.formula)
