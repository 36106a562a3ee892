-- A written node is read by its tag.
--   tag_named-tag_name  a tag by its name
--   node_of-tagged      an array that begins with the name of a tag
use Rattle.std.proofs.Common.{◌≡◌, ℕ, List, [], ◌∷◌, map, Option, Some, None, refl, ap, ◌∙◌}
use Rattle.serde_json.specs.Data.{Data, string}
use Rattle.serde_json.specs.View.{items_of}
use Rattle.value_core.specs.declared.operator.Operator.TheVariants.{Concatenate, Power, Sum, Product, Compare}
use Rattle.value_core.specs.declared.operator.OpSum.TheVariants as sum
use Rattle.value_core.specs.declared.operator.OpProduct.TheVariants as product
use Rattle.value_core.specs.declared.operator.OpCompare.TheVariants as compare
use Rattle.value_core.specs.declared.operator.OpUnary.TheVariants as sign
use Rattle.tree_core.specs.Tree.{Tree}
use Rattle.value_json.specs.Fields.{elements_of, text_at}
use Rattle.value_json.specs.Piece.{list_data, tagged_list}
use Rattle.value_json.proofs.Places.{elements_of-items_of}
use Rattle.formula_json.specs.declared.tag.LeafTag.TheVariants.{Boolean, Number, Text, Error, Empty, Reference, Range, WrongReference, WrongRange, Array, DefinedName, Table, Variable, ParseError}
use Rattle.formula_json.specs.declared.tag.Tag.{Tag}
use Rattle.formula_json.specs.declared.tag.Tag.TheVariants.{Leaf, RangeOperator, Binary, Unary, Spill, Call, NamedCall, Intersection, Lambda, LambdaCall}
use Rattle.formula_json.specs.Formula.{node_of, nodes_of, node_in, node_with}
use Rattle.formula_json.specs.Tags.{tag_name, tag_named, tag_at}

tag_named-tag_name : (tag : Tag) → tag_named (tag_name tag) ≡ Some tag
unfolding tag_named
tag_named-tag_name (Leaf Boolean) = refl
tag_named-tag_name (Leaf Number) = refl
tag_named-tag_name (Leaf Text) = refl
tag_named-tag_name (Leaf Error) = refl
tag_named-tag_name (Leaf Empty) = refl
tag_named-tag_name (Leaf Reference) = refl
tag_named-tag_name (Leaf Range) = refl
tag_named-tag_name (Leaf WrongReference) = refl
tag_named-tag_name (Leaf WrongRange) = refl
tag_named-tag_name (Leaf Array) = refl
tag_named-tag_name (Leaf DefinedName) = refl
tag_named-tag_name (Leaf Table) = refl
tag_named-tag_name (Leaf Variable) = refl
tag_named-tag_name (Leaf ParseError) = refl
tag_named-tag_name RangeOperator = refl
tag_named-tag_name (Binary Concatenate) = refl
tag_named-tag_name (Binary Power) = refl
tag_named-tag_name (Binary (Sum sum.Add)) = refl
tag_named-tag_name (Binary (Sum sum.Minus)) = refl
tag_named-tag_name (Binary (Product product.Times)) = refl
tag_named-tag_name (Binary (Product product.Divide)) = refl
tag_named-tag_name (Binary (Compare compare.LessThan)) = refl
tag_named-tag_name (Binary (Compare compare.GreaterThan)) = refl
tag_named-tag_name (Binary (Compare compare.Equal)) = refl
tag_named-tag_name (Binary (Compare compare.LessOrEqualThan)) = refl
tag_named-tag_name (Binary (Compare compare.GreaterOrEqualThan)) = refl
tag_named-tag_name (Binary (Compare compare.NonEqual)) = refl
tag_named-tag_name (Unary sign.Minus) = refl
tag_named-tag_name (Unary sign.Percentage) = refl
tag_named-tag_name Spill = refl
tag_named-tag_name Call = refl
tag_named-tag_name NamedCall = refl
tag_named-tag_name Intersection = refl
tag_named-tag_name Lambda = refl
tag_named-tag_name LambdaCall = refl

nodes_of-items_of : (values : List Data) → nodes_of (items_of values) ≡ map node_of values
unfolding node_of nodes_of
nodes_of-items_of [] = refl
nodes_of-items_of (value ∷ values) = ap (λ later. node_of value ∷ later) (nodes_of-items_of values)

node_of-array : (values : List Data) → node_of (list_data values) ≡ node_in (elements_of (items_of values)) (nodes_of (items_of values))
unfolding node_of nodes_of
node_of-array values = refl

node_of-string : (text : List ℕ) → node_of (string text) ≡ None
unfolding node_of nodes_of
node_of-string text = refl

by_tag : (tag : Tag) (parts : List Data) (nodes : List (Option Tree)) → node_in (string (tag_name tag) ∷ parts) nodes ≡ node_with tag (string (tag_name tag) ∷ parts) nodes
unfolding node_in tag_at text_at
by_tag tag parts nodes = rw (tag_named-tag_name tag)

pub node_of-tagged : (tag : Tag) (parts : List Data) → node_of (tagged_list (tag_name tag) parts) ≡ node_with tag (string (tag_name tag) ∷ parts) (None ∷ map node_of parts)
node_of-tagged tag parts =
    node_of-array (string (tag_name tag) ∷ parts)
    ∙ ap (λ places. node_in places (nodes_of (items_of (string (tag_name tag) ∷ parts)))) (elements_of-items_of (string (tag_name tag) ∷ parts))
    ∙ by_tag tag parts (nodes_of (items_of (string (tag_name tag) ∷ parts)))
    ∙ ap (node_with tag (string (tag_name tag) ∷ parts)) (nodes_of-items_of (string (tag_name tag) ∷ parts) ∙ ap (λ first. first ∷ map node_of parts) (node_of-string (tag_name tag)))
