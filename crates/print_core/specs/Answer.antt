-- The line of an answer.
--   size_text    a shape of so many rows and columns, as its name and both in brackets
--   shape_text   the text of a shape
--   answer_data  the JSON of an answer: an object with a key for each part, in the order of their names
--   answer_line  its compact text, and a newline
--   formulas_data, formulas_line  the same of an exported and an imported formula alone
use Rattle.std.specs.Prelude.{ℕ, ℤ, List, [], ◌∷◌, ◌++◌, codes}
use Rattle.std.specs.Fmt.{signed_decimal}
use Rattle.serde_json.specs.Data.{Data, object, string, no_members, member}
use Rattle.serde_json.specs.Written.{compact_text}
use Rattle.kind_table.specs.declared.static_result.StaticResult.{StaticResult}
use Rattle.kind_table.specs.declared.static_result.StaticResult.TheVariants.{Scalar, Array, Range, Unknown}
use Rattle.value_json.specs.Values.{rows_data}
use Rattle.formula_json.specs.Formula.{node_data}
use Rattle.tree_core.specs.declared.node.Node.{Node}
use Rattle.unit_json.specs.Unit.{unit_or_null}
use Rattle.print_core.specs.declared.answer.Answer.{Answer}

abbrev pub size_text : List ℕ → ℤ → ℤ → List ℕ
size_text name rows columns = name ++ (codes "(" ++ (signed_decimal rows ++ (codes "," ++ (signed_decimal columns ++ codes ")"))))

abbrev pub shape_text : StaticResult → List ℕ
shape_text Scalar = codes "Scalar"
shape_text (Array rows columns) = size_text (codes "Array") rows columns
shape_text (Range rows columns) = size_text (codes "Range") rows columns
shape_text Unknown = codes "Unknown"

abbrev pub shape_data : StaticResult → Data
shape_data shape = string (shape_text shape)

abbrev pub answer_data : Answer → Data
answer_data answer = object (
    member (codes "exported") (node_data answer.exported) (
    member (codes "given_shape") (shape_data answer.given_shape) (
    member (codes "imported") (node_data answer.imported) (
    member (codes "imported_shape") (shape_data answer.imported_shape) (
    member (codes "legacy") (rows_data answer.legacy) (
    member (codes "spilled") (rows_data answer.spilled) (
    member (codes "unit") (unit_or_null answer.unit)
    no_members)))))))

abbrev pub answer_line : Answer → List ℕ
answer_line answer = compact_text (answer_data answer) ++ 10 ∷ []

abbrev pub formulas_data : (exported imported : Node) → Data
formulas_data exported imported = object (member (codes "exported") (node_data exported) (member (codes "imported") (node_data imported) no_members))

abbrev pub formulas_line : (exported imported : Node) → List ℕ
formulas_line exported imported = compact_text (formulas_data exported imported) ++ 10 ∷ []
