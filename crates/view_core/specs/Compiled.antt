-- What plain nests are compiled to.
--   without_cells   what a formula comes to with reference over a book without cells: the same over every book, where it reads
--                   none and calls no function
--   is_source       a range, or an array literal
--   Comes           what was found has a rectangle as its value, or is an error, which comes from the formula's cell
--   Compiled        what was found is the rectangle that a nest is, or an error
--   Compiles        what a formula comes to, over every book and by every table
use Rattle.std.specs.Prelude.{◌≡◌, ℕ, Bool, true, false, List, [], Result, Ok, Err, ⊤}
use Rattle.value_core.specs.declared.array.ArrayNode.{ArrayNode}
use Rattle.value_core.specs.declared.error.Error.{Error}
use Rattle.value_core.specs.declared.position.CellReferenceIndex.{CellReferenceIndex}
use Rattle.rectangle_core.specs.declared.value.Value.TheVariants.{Grid}
use Rattle.book_core.specs.Contents.{Contents, no_contents}
use Rattle.grid_core.specs.declared.calc_result.CalcResult.{CalcResult}
use Rattle.kind_table.specs.CrateTable.{crate_table}
use Rattle.kind_table.specs.Table.{Table}
use Rattle.tree_core.specs.Label.{leaf}
use Rattle.tree_core.specs.Tree.{Tree, tree}
use Rattle.result_core.specs.Finding.{wrong}
use Rattle.result_core.specs.declared.found.Found.{Found}
use Rattle.result_core.specs.declared.found.Found.TheVariants.{Same}
use Rattle.argument_core.specs.declared.stop.Stop.{Stop}
use Rattle.argument_core.specs.declared.stop.Stop.TheVariants.{Wrong, Memory}
use Rattle.nest_core.specs.Plain.{is_array_leaf}
use Rattle.nest_core.specs.Rows.{rows_in}
use Rattle.nest_core.specs.declared.plain_nest.PlainNest.{PlainNest}
use Rattle.eval_core.specs.Answer.{reference_of}
use Rattle.eval_core.specs.Meaning.{found_of, value_in}
use Rattle.eval_core.specs.Setting.{Setting, setting}

abbrev pub without_cells : CellReferenceIndex → Tree → CalcResult
without_cells cell t = reference_of (setting crate_table no_contents 0 cell) t

abbrev pub is_source : Tree → Bool
is_source (tree [] (leaf l) ts) = is_array_leaf l
is_source t = false

abbrev pub Comes : Setting → Result (List (List ArrayNode)) Error → Found → Type 0
Comes here (Ok rows) found = value_in here found ≡ Grid rows
Comes here (Err e) found = found ≡ Same (wrong here.cell e)

abbrev pub Compiled : Setting → Result PlainNest Stop → Found → Type 0
Compiled here (Ok nest) found = Comes here (Ok (rows_in here.book nest)) found
Compiled here (Err (Wrong e)) found = Comes here (Err e) found
Compiled here (Err Memory) found = ⊤

abbrev pub Compiles : ℕ → CellReferenceIndex → Tree → Result PlainNest Stop → Type 0
Compiles limit cell t result = (table : Table) (book : Contents) → Compiled (setting table book limit cell) result (found_of (setting table book limit cell) t)
