-- Each formula in range is read back.
use Rattle.std.proofs.Common.{◌≡◌, Bool, List, [], ◌∷◌, map, Some, sym, subst}
use Rattle.value_core.specs.declared.operator.Operator.TheVariants.{Concatenate, Power, Sum, Product, Compare}
use Rattle.tree_core.specs.Formula.{layer, tree_of}
use Rattle.tree_core.specs.Label as label
use Rattle.tree_core.specs.Tree.{Tree, tree, forest, under}
use Rattle.tree_core.specs.declared.node.Node.{Node}
use Rattle.tree_core.specs.declared.node.Node.TheOpen.{Node-F}
use Rattle.tree_core.specs.declared.node.Node.TheFolds.{map-Node, fold-roll-Node, ind-Node}
use Rattle.formula_json.specs.Formula.{node_of, node_data}
use Rattle.json_laws.specs.InRange.{InRange, AllInRange}
use Rattle.json_laws.proofs.LabelsBack.{Reads, AllRead, leaf_reads, binary_reads, range_reads, unary_reads, spill_reads, lambda_reads, call_reads, named_call_reads, lambda_call_reads, at_reads}

abbrev Law : Node → Type 0
Law node = InRange (tree_of node) → Reads (tree_of node)

abbrev With : Type 0
With = (node : Node) × Law node

abbrev plain : Node-F With → Node-F Node
plain = map-Node With Node (λ e. e.0)

abbrev trees : List With → List Tree
trees es = map tree_of (map (λ e. e.0) es)

all_by_law : (es : List With) → AllInRange (forest (trees es)) → AllRead (trees es)
all_by_law [] fit = tt
all_by_law (e ∷ es) fit = (e.1 fit.0, all_by_law es fit.1)

in_range-under : (automatic : Bool) (t : Tree) → InRange (under automatic t) → InRange t
in_range-under automatic (tree run l ts) fits = fits

layer_reads : (y : Node-F With) → InRange (layer (map-Node Node Tree tree_of (plain y))) → Reads (layer (map-Node Node Tree tree_of (plain y)))
layer_reads (Node-F.BooleanKind b) fits = leaf_reads (label.boolean b) fits.0
layer_reads (Node-F.NumberKind n) fits = leaf_reads (label.number n) fits.0
layer_reads (Node-F.StringKind text) fits = leaf_reads (label.string text) fits.0
layer_reads (Node-F.ErrorKind e) fits = leaf_reads (label.error e) fits.0
layer_reads Node-F.EmptyArgKind fits = leaf_reads label.empty fits.0
layer_reads (Node-F.ReferenceKind name index ar ac r c) fits = leaf_reads _ fits.0
layer_reads (Node-F.RangeKind name index ar ac r c ar2 ac2 r2 c2) fits = leaf_reads _ fits.0
layer_reads (Node-F.WrongReferenceKind name ar ac r c) fits = leaf_reads _ fits.0
layer_reads (Node-F.WrongRangeKind name ar ac r c ar2 ac2 r2 c2) fits = leaf_reads _ fits.0
layer_reads (Node-F.ArrayKind rows) fits = leaf_reads (label.array rows) fits.0
layer_reads (Node-F.DefinedNameKind name) fits = leaf_reads (label.defined_name name.0 name.1 name.2) fits.0
layer_reads (Node-F.TableNameKind name) fits = leaf_reads (label.table_name name) fits.0
layer_reads (Node-F.NamedVariableKind name id) fits = leaf_reads (label.named_variable name id) fits.0
layer_reads (Node-F.ParseErrorKind formula message position) fits = leaf_reads (label.parse_error formula message position) fits.0
layer_reads (Node-F.OpConcatenateKind left right) fits = binary_reads Concatenate (tree_of left.0) (tree_of right.0) (left.1 fits.1.0) (right.1 fits.1.1.0)
layer_reads (Node-F.OpPowerKind left right) fits = binary_reads Power (tree_of left.0) (tree_of right.0) (left.1 fits.1.0) (right.1 fits.1.1.0)
layer_reads (Node-F.OpSumKind kind left right) fits = binary_reads (Sum kind) (tree_of left.0) (tree_of right.0) (left.1 fits.1.0) (right.1 fits.1.1.0)
layer_reads (Node-F.OpProductKind kind left right) fits = binary_reads (Product kind) (tree_of left.0) (tree_of right.0) (left.1 fits.1.0) (right.1 fits.1.1.0)
layer_reads (Node-F.CompareKind kind left right) fits = binary_reads (Compare kind) (tree_of left.0) (tree_of right.0) (left.1 fits.1.0) (right.1 fits.1.1.0)
layer_reads (Node-F.OpRangeKind left right) fits = range_reads (tree_of left.0) (tree_of right.0) (left.1 fits.1.0) (right.1 fits.1.1.0)
layer_reads (Node-F.UnaryKind kind child) fits = unary_reads kind (tree_of child.0) (child.1 fits.1.0)
layer_reads (Node-F.SpillRangeOperator child) fits = spill_reads (tree_of child.0) (child.1 fits.1.0)
layer_reads (Node-F.LambdaDefKind parameters body) fits = lambda_reads parameters (tree_of body.0) (body.1 fits.1.0)
layer_reads (Node-F.FunctionKind kind args) fits = call_reads kind (trees args) fits.0 (all_by_law args fits.1)
layer_reads (Node-F.NamedFunctionKind name id args) fits = named_call_reads name id (trees args) fits.0 (all_by_law args fits.1)
layer_reads (Node-F.LambdaCallKind lambda args) fits = lambda_call_reads (tree_of lambda.0) (trees args) (lambda.1 fits.1.0) (all_by_law args fits.1.1)
layer_reads (Node-F.ImplicitIntersection automatic child) fits = at_reads automatic (tree_of child.0) (child.1 (in_range-under automatic (tree_of child.0) fits))

pub reads_back : (node : Node) → InRange (tree_of node) → node_of (node_data node) ≡ Some (tree_of node)
reads_back = ind-Node Law (λ x y is.
    let P : Tree → Type 0 = λ t. InRange t → Reads t in
    subst P (sym (fold-roll-Node Tree layer x)) (subst (λ z. P (layer (map-Node Node Tree tree_of z))) is (layer_reads y)))
