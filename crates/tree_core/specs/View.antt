-- What a view of a node shows.
--   leaf_in     a node without children, as its label has it
--   closed_in   a node whose children import doesn't enter, as its label has it; closed_parts, its children
--   Here, here_in   what stands at a node: a label, or an `@`
--   over, tree_in   the tree that a view shows: what stands here, over the trees of the parts
--   parts_in    the nodes right below it: its children, or the node under an `@`
--   Falls       each part is a smaller formula than the node
--   IsBinary, IsLeaf   a bare operator between two sides; a node without children
use Rattle.std.specs.Prelude.{◌<◌, Bool, List, [], ◌∷◌, map}
use denote.Param.Weighed.{most}
use Rattle.tree_core.specs.Label as label
use Rattle.tree_core.specs.Label.{leaf, passing, binary, unary, spill, closed, call, range_operator, named_call, lambda_definition, lambda_call}
use Rattle.tree_core.specs.Tree.{Tree, tree, Trees, none, more, forest, under}
use Rattle.tree_core.specs.Formula.{tree_of}
use Rattle.tree_core.specs.declared.node.Node.{Node, out-Node, size-Node}
use Rattle.tree_core.specs.declared.node.Node.TheOpen.{Node-F}
use Rattle.tree_core.specs.declared.view.Leaf.{Leaf}
use Rattle.tree_core.specs.declared.view.Leaf.TheVariants as leaf_view
use Rattle.tree_core.specs.declared.view.Closed.{Closed}
use Rattle.tree_core.specs.declared.view.Closed.TheVariants as closed_view
use Rattle.tree_core.specs.declared.view.View.{View}
use Rattle.tree_core.specs.declared.view.View.TheVariants as view

abbrev pub leaf_in : Leaf → label.Leaf
leaf_in (leaf_view.Boolean b) = label.boolean b
leaf_in (leaf_view.Number n) = label.number n
leaf_in (leaf_view.Text text) = label.string text.now
leaf_in (leaf_view.Error e) = label.error e
leaf_in leaf_view.Empty = label.empty
leaf_in (leaf_view.Reference name index corner) = label.reference (record { name = name.now; index = index }) corner
leaf_in (leaf_view.Range name index left right) = label.range (record { name = name.now; index = index }) left right
leaf_in (leaf_view.WrongReference name corner) = label.wrong_reference name.now corner
leaf_in (leaf_view.WrongRange name left right) = label.wrong_range name.now left right
leaf_in (leaf_view.Array rows) = label.array rows.now
leaf_in (leaf_view.DefinedName name) = label.defined_name name.now.0 name.now.1 name.now.2
leaf_in (leaf_view.TableName name) = label.table_name name.now
leaf_in (leaf_view.Variable name id) = label.named_variable name.now id
leaf_in (leaf_view.ParseError formula message position) = label.parse_error formula.now message.now position

abbrev pub closed_in : Closed → label.Closed
closed_in (closed_view.RangeOperator left right) = range_operator
closed_in (closed_view.NamedCall name id args) = named_call name.now id
closed_in (closed_view.Lambda parameters body) = lambda_definition parameters.now
closed_in (closed_view.LambdaCall lambda args) = lambda_call

abbrev pub closed_parts : Closed → List Node
closed_parts (closed_view.RangeOperator left right) = left.now ∷ right.now ∷ []
closed_parts (closed_view.NamedCall name id args) = args.now
closed_parts (closed_view.Lambda parameters body) = body.now ∷ []
closed_parts (closed_view.LambdaCall lambda args) = lambda.now ∷ args.now

-- what stands at a node: a label, or an `@`
pub data Here : Type 0 where
  bare : label.Label → Here
  at : Bool → Here

abbrev pub here_in : View → Here
here_in (view.Leaf l) = bare (leaf (leaf_in l))
here_in (view.Closed c) = bare (closed (closed_in c))
here_in (view.Unary kind right) = bare (passing (unary kind))
here_in (view.Binary operator left right) = bare (passing (binary operator))
here_in (view.Spill child) = bare spill
here_in (view.Call kind args) = bare (call kind)
here_in (view.Intersection automatic child) = at automatic

abbrev pub parts_in : View → List Node
parts_in (view.Leaf l) = []
parts_in (view.Closed c) = closed_parts c
parts_in (view.Unary kind right) = right.now ∷ []
parts_in (view.Binary operator left right) = left.now ∷ right.now ∷ []
parts_in (view.Spill child) = child.now ∷ []
parts_in (view.Call kind args) = args.now
parts_in (view.Intersection automatic child) = child.now ∷ []

abbrev pub over : Here → Trees → Tree
over (bare l) ts = tree [] l ts
over (at automatic) (more t ts) = under automatic t
over (at automatic) none = tree (automatic ∷ []) (leaf label.empty) none

abbrev pub tree_in : View → Tree
tree_in shown = over (here_in shown) (forest (map tree_of (parts_in shown)))

abbrev pub Falls : View → Node → Type 0
Falls shown node = most size-Node (parts_in shown) < size-Node node

abbrev pub IsBinary : Node → Type 0
IsBinary node = binary_layer (out-Node node)
  where
    binary_layer : Node-F Node → Type 0
    binary_layer (Node-F.OpConcatenateKind left right) = Unit {0}
    binary_layer (Node-F.OpPowerKind left right) = Unit {0}
    binary_layer (Node-F.OpSumKind kind left right) = Unit {0}
    binary_layer (Node-F.OpProductKind kind left right) = Unit {0}
    binary_layer (Node-F.CompareKind kind left right) = Unit {0}
    binary_layer _ = ⊥

abbrev pub IsLeaf : Node → Type 0
IsLeaf node = leaf_layer (out-Node node)
  where
    leaf_layer : Node-F Node → Type 0
    leaf_layer (Node-F.OpConcatenateKind left right) = ⊥
    leaf_layer (Node-F.OpPowerKind left right) = ⊥
    leaf_layer (Node-F.OpSumKind kind left right) = ⊥
    leaf_layer (Node-F.OpProductKind kind left right) = ⊥
    leaf_layer (Node-F.CompareKind kind left right) = ⊥
    leaf_layer (Node-F.OpRangeKind left right) = ⊥
    leaf_layer (Node-F.UnaryKind kind right) = ⊥
    leaf_layer (Node-F.SpillRangeOperator child) = ⊥
    leaf_layer (Node-F.ImplicitIntersection automatic child) = ⊥
    leaf_layer (Node-F.FunctionKind kind args) = ⊥
    leaf_layer (Node-F.NamedFunctionKind name id args) = ⊥
    leaf_layer (Node-F.LambdaDefKind parameters body) = ⊥
    leaf_layer (Node-F.LambdaCallKind lambda args) = ⊥
    leaf_layer _ = Unit {0}
