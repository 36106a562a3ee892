-- The tags of nodes: one table, by which they are read and written.
--
-- `leaf_name`, `operator_name`, `unary_name`  the names of the tags of nodes without children, of operators between two sides,
--                                             of those with one operand
-- `tag_name`   the name of a tag
-- `tags`       all tags
-- `tag_named`  the tag with a name
-- `tag_at`     the tag that the text at a place names
-- `leaf_sort`  the tag of a node without children
-- `here_sort`, `here_name`  the tag of what stands at a node, and its name
use Rattle.std.specs.Prelude.{ℕ, List, [], ◌∷◌, codes, Option}
use Rattle.std.specs.List.{find}
use Rattle.std.specs.Str.{bytes_eq}
use Rattle.serde_json.specs.Data.{Data}
use Rattle.value_core.specs.declared.operator.Operator.{Operator}
use Rattle.value_core.specs.declared.operator.Operator.TheVariants.{Concatenate, Power, Sum, Product, Compare}
use Rattle.value_core.specs.declared.operator.OpSum.TheVariants as sum
use Rattle.value_core.specs.declared.operator.OpProduct.TheVariants as product
use Rattle.value_core.specs.declared.operator.OpCompare.TheVariants as compare
use Rattle.value_core.specs.declared.operator.OpUnary.{OpUnary}
use Rattle.value_core.specs.declared.operator.OpUnary.TheVariants as sign
use Rattle.tree_core.specs.Label as label
use Rattle.tree_core.specs.View.{Here, bare, at}
use Rattle.value_json.specs.Fields.{◌>>=◌, text_at}
use Rattle.formula_json.specs.declared.tag.LeafTag.{LeafTag}
use Rattle.formula_json.specs.declared.tag.LeafTag.TheVariants.{Boolean, Number, Text, Error, Empty, Reference, Range, WrongReference, WrongRange, Array, DefinedName, Table, Variable, ParseError}
use Rattle.formula_json.specs.declared.tag.Tag.{Tag}
use Rattle.formula_json.specs.declared.tag.Tag.TheVariants.{Leaf, RangeOperator, Binary, Unary, Spill, Call, NamedCall, Intersection, Lambda, LambdaCall}

abbrev pub leaf_name : LeafTag → List ℕ
leaf_name Boolean = codes "bool"
leaf_name Number = codes "num"
leaf_name Text = codes "text"
leaf_name Error = codes "error"
leaf_name Empty = codes "empty"
leaf_name Reference = codes "ref"
leaf_name Range = codes "range"
leaf_name WrongReference = codes "wrongref"
leaf_name WrongRange = codes "wrongrange"
leaf_name Array = codes "array"
leaf_name DefinedName = codes "name"
leaf_name Table = codes "table"
leaf_name Variable = codes "var"
leaf_name ParseError = codes "parseerror"

abbrev pub operator_name : Operator → List ℕ
operator_name Concatenate = codes "concat"
operator_name Power = codes "pow"
operator_name (Sum sum.Add) = codes "add"
operator_name (Sum sum.Minus) = codes "sub"
operator_name (Product product.Times) = codes "mul"
operator_name (Product product.Divide) = codes "div"
operator_name (Compare compare.LessThan) = codes "lt"
operator_name (Compare compare.GreaterThan) = codes "gt"
operator_name (Compare compare.Equal) = codes "eq"
operator_name (Compare compare.LessOrEqualThan) = codes "le"
operator_name (Compare compare.GreaterOrEqualThan) = codes "ge"
operator_name (Compare compare.NonEqual) = codes "ne"

abbrev pub unary_name : OpUnary → List ℕ
unary_name sign.Minus = codes "neg"
unary_name sign.Percentage = codes "percent"

abbrev pub tag_name : Tag → List ℕ
tag_name (Leaf sort) = leaf_name sort
tag_name RangeOperator = codes "oprange"
tag_name (Binary operator) = operator_name operator
tag_name (Unary kind) = unary_name kind
tag_name Spill = codes "spill"
tag_name Call = codes "call"
tag_name NamedCall = codes "named"
tag_name Intersection = codes "at"
tag_name Lambda = codes "lambda"
tag_name LambdaCall = codes "lambdacall"

abbrev pub tags : List Tag
tags =
    Leaf Boolean ∷ Leaf Number ∷ Leaf Text ∷ Leaf Error ∷ Leaf Empty ∷ Leaf Reference ∷ Leaf Range ∷ Leaf WrongReference ∷ Leaf WrongRange
    ∷ Leaf Array ∷ Leaf DefinedName ∷ Leaf Table ∷ Leaf Variable ∷ Leaf ParseError ∷ RangeOperator
    ∷ Binary Concatenate ∷ Binary Power ∷ Binary (Sum sum.Add) ∷ Binary (Sum sum.Minus) ∷ Binary (Product product.Times) ∷ Binary (Product product.Divide)
    ∷ Binary (Compare compare.LessThan) ∷ Binary (Compare compare.GreaterThan) ∷ Binary (Compare compare.Equal)
    ∷ Binary (Compare compare.LessOrEqualThan) ∷ Binary (Compare compare.GreaterOrEqualThan) ∷ Binary (Compare compare.NonEqual)
    ∷ Unary sign.Minus ∷ Unary sign.Percentage ∷ Spill ∷ Call ∷ NamedCall ∷ Intersection ∷ Lambda ∷ LambdaCall ∷ []

unfoldable pub tag_named : List ℕ → Option Tag
tag_named name = find (λ tag. bytes_eq name (tag_name tag)) tags

unfoldable pub tag_at : ℕ → List Data → Option Tag
tag_at place places = do
  name ← text_at place places
  tag_named name

abbrev pub leaf_sort : label.Leaf → LeafTag
leaf_sort (label.boolean b) = Boolean
leaf_sort (label.number n) = Number
leaf_sort (label.string t) = Text
leaf_sort (label.error e) = Error
leaf_sort label.empty = Empty
leaf_sort (label.reference sheet corner) = Reference
leaf_sort (label.range sheet left right) = Range
leaf_sort (label.wrong_reference name corner) = WrongReference
leaf_sort (label.wrong_range name left right) = WrongRange
leaf_sort (label.array rows) = Array
leaf_sort (label.defined_name name scope formula) = DefinedName
leaf_sort (label.table_name name) = Table
leaf_sort (label.named_variable name id) = Variable
leaf_sort (label.parse_error formula message position) = ParseError

abbrev pub here_sort : Here → Tag
here_sort (bare (label.leaf l)) = Leaf (leaf_sort l)
here_sort (bare (label.passing (label.binary operator))) = Binary operator
here_sort (bare (label.passing (label.unary kind))) = Unary kind
here_sort (bare label.spill) = Spill
here_sort (bare (label.closed label.range_operator)) = RangeOperator
here_sort (bare (label.closed (label.named_call name id))) = NamedCall
here_sort (bare (label.closed (label.lambda_definition parameters))) = Lambda
here_sort (bare (label.closed label.lambda_call)) = LambdaCall
here_sort (bare (label.call kind)) = Call
here_sort (at automatic) = Intersection

abbrev pub here_name : Here → List ℕ
here_name here = tag_name (here_sort here)
