-- A formula is read back from its tree, so that two formulas with one tree are one.
--   node_of    the formula of a tree
--   readback   of the tree of a formula it is that formula
--   one_tree   so formulas with one tree are one
use Rattle.std.proofs.Common.{◌≡◌, Bool, List, [], ◌∷◌, map, refl, sym, ap, ap₂, ◌∙◌, subst}
use Rattle.tree_core.specs.Label.{Leaf, Label, leaf, passing, spill, closed, call}
use Rattle.tree_core.specs.Label.{boolean, number, string, error, empty, reference, range, wrong_reference, wrong_range, array, defined_name, table_name, named_variable, parse_error}
use Rattle.value_core.specs.declared.operator.Operator.{Operator}
use Rattle.value_core.specs.declared.operator.Operator.TheVariants.{Concatenate, Power, Sum, Product, Compare}
use Rattle.tree_core.specs.Label.{binary, unary, range_operator, named_call, lambda_definition, lambda_call}
use Rattle.tree_core.specs.Tree.{Run, Tree, tree, Trees, none, more, forest, under}
use Rattle.tree_core.specs.Formula.{layer, tree_of}
use Rattle.tree_core.specs.declared.node.Node.{Node, roll-Node}
use Rattle.tree_core.specs.declared.node.Node.TheOpen.{Node-F}
use Rattle.tree_core.specs.declared.node.Node.TheFolds.{map-Node, fold-roll-Node, ind-Node}

abbrev first : List Node → Node
first [] = roll-Node Node-F.EmptyArgKind
first (node ∷ nodes) = node

abbrev rest : List Node → List Node
rest [] = []
rest (node ∷ nodes) = nodes

abbrev of_leaf : Leaf → Node-F Node
of_leaf (boolean b) = Node-F.BooleanKind b
of_leaf (number n) = Node-F.NumberKind n
of_leaf (string text) = Node-F.StringKind text
of_leaf (error e) = Node-F.ErrorKind e
of_leaf empty = Node-F.EmptyArgKind
of_leaf (reference sheet c) = Node-F.ReferenceKind sheet.name sheet.index c.absolute_row c.absolute_column c.row c.column
of_leaf (range sheet l r) = Node-F.RangeKind sheet.name sheet.index l.absolute_row l.absolute_column l.row l.column r.absolute_row r.absolute_column r.row r.column
of_leaf (wrong_reference name c) = Node-F.WrongReferenceKind name c.absolute_row c.absolute_column c.row c.column
of_leaf (wrong_range name l r) = Node-F.WrongRangeKind name l.absolute_row l.absolute_column l.row l.column r.absolute_row r.absolute_column r.row r.column
of_leaf (array rows) = Node-F.ArrayKind rows
of_leaf (defined_name name sheet formula) = Node-F.DefinedNameKind (record { 0 = name; 1 = sheet; 2 = formula })
of_leaf (table_name name) = Node-F.TableNameKind name
of_leaf (named_variable name id) = Node-F.NamedVariableKind name id
of_leaf (parse_error formula message position) = Node-F.ParseErrorKind formula message position

abbrev of_label : Label → List Node → Node-F Node
of_label (leaf l) nodes = of_leaf l
of_label (closed range_operator) nodes = Node-F.OpRangeKind (first nodes) (first (rest nodes))
of_label (passing (binary Concatenate)) nodes = Node-F.OpConcatenateKind (first nodes) (first (rest nodes))
of_label (passing (binary (Sum kind))) nodes = Node-F.OpSumKind kind (first nodes) (first (rest nodes))
of_label (passing (binary (Product kind))) nodes = Node-F.OpProductKind kind (first nodes) (first (rest nodes))
of_label (passing (binary Power)) nodes = Node-F.OpPowerKind (first nodes) (first (rest nodes))
of_label (passing (binary (Compare kind))) nodes = Node-F.CompareKind kind (first nodes) (first (rest nodes))
of_label (passing (unary kind)) nodes = Node-F.UnaryKind kind (first nodes)
of_label spill nodes = Node-F.SpillRangeOperator (first nodes)
of_label (closed (lambda_definition parameters)) nodes = Node-F.LambdaDefKind parameters (first nodes)
of_label (call kind) nodes = Node-F.FunctionKind kind nodes
of_label (closed (named_call name id)) nodes = Node-F.NamedFunctionKind name id nodes
of_label (closed lambda_call) nodes = Node-F.LambdaCallKind (first nodes) (rest nodes)

abbrev wrapped : Run → Node → Node
wrapped [] node = node
wrapped (automatic ∷ run) node = roll-Node (Node-F.ImplicitIntersection automatic (wrapped run node))

abbrev mutual
  pub node_of : Tree → Node
  node_of (tree run label children) = wrapped run (roll-Node (of_label label (nodes_of children)))

  nodes_of : Trees → List Node
  nodes_of none = []
  nodes_of (more t ts) = node_of t ∷ nodes_of ts

node_of-under : (automatic : Bool) (t : Tree) → node_of (under automatic t) ≡ roll-Node (Node-F.ImplicitIntersection automatic (node_of t))
node_of-under automatic (tree run label children) = refl

abbrev Back : Node → Type 0
Back node = node_of (tree_of node) ≡ node

abbrev plain : Node-F ((node : Node) × Back node) → Node-F Node
plain = map-Node ((node : Node) × Back node) Node (λ e. e.0)

backs : (args : List ((node : Node) × Back node)) → nodes_of (forest (map tree_of (map (λ e. e.0) args))) ≡ map (λ e. e.0) args
backs [] = refl
backs (e ∷ args) = ap₂ (λ node nodes. node ∷ nodes) e.1 (backs args)

back_layer : (y : Node-F ((node : Node) × Back node)) → node_of (layer (map-Node Node Tree tree_of (plain y))) ≡ roll-Node (plain y)
back_layer (Node-F.BooleanKind b) = refl
back_layer (Node-F.NumberKind n) = refl
back_layer (Node-F.StringKind text) = refl
back_layer (Node-F.ErrorKind e) = refl
back_layer Node-F.EmptyArgKind = refl
back_layer (Node-F.ReferenceKind name index absolute_row absolute_column row column) = refl
back_layer (Node-F.RangeKind name index absolute_row1 absolute_column1 row1 column1 absolute_row2 absolute_column2 row2 column2) = refl
back_layer (Node-F.WrongReferenceKind name absolute_row absolute_column row column) = refl
back_layer (Node-F.WrongRangeKind name absolute_row1 absolute_column1 row1 column1 absolute_row2 absolute_column2 row2 column2) = refl
back_layer (Node-F.ArrayKind rows) = refl
back_layer (Node-F.DefinedNameKind name) = refl
back_layer (Node-F.TableNameKind name) = refl
back_layer (Node-F.NamedVariableKind name id) = refl
back_layer (Node-F.ParseErrorKind formula message position) = refl
back_layer (Node-F.OpRangeKind left right) = ap₂ (λ node other. roll-Node (Node-F.OpRangeKind node other)) left.1 right.1
back_layer (Node-F.OpConcatenateKind left right) = ap₂ (λ node other. roll-Node (Node-F.OpConcatenateKind node other)) left.1 right.1
back_layer (Node-F.OpSumKind kind left right) = ap₂ (λ node other. roll-Node (Node-F.OpSumKind kind node other)) left.1 right.1
back_layer (Node-F.OpProductKind kind left right) = ap₂ (λ node other. roll-Node (Node-F.OpProductKind kind node other)) left.1 right.1
back_layer (Node-F.OpPowerKind left right) = ap₂ (λ node other. roll-Node (Node-F.OpPowerKind node other)) left.1 right.1
back_layer (Node-F.CompareKind kind left right) = ap₂ (λ node other. roll-Node (Node-F.CompareKind kind node other)) left.1 right.1
back_layer (Node-F.UnaryKind kind child) = ap (λ node. roll-Node (Node-F.UnaryKind kind node)) child.1
back_layer (Node-F.SpillRangeOperator child) = ap (λ node. roll-Node (Node-F.SpillRangeOperator node)) child.1
back_layer (Node-F.LambdaDefKind parameters child) = ap (λ node. roll-Node (Node-F.LambdaDefKind parameters node)) child.1
back_layer (Node-F.FunctionKind kind args) = ap (λ node. roll-Node (Node-F.FunctionKind kind node)) (backs args)
back_layer (Node-F.NamedFunctionKind name id args) = ap (λ node. roll-Node (Node-F.NamedFunctionKind name id node)) (backs args)
back_layer (Node-F.LambdaCallKind lambda args) = ap₂ (λ node other. roll-Node (Node-F.LambdaCallKind node other)) lambda.1 (backs args)
back_layer (Node-F.ImplicitIntersection automatic child) = node_of-under automatic (tree_of child.0) ∙ ap (λ node. roll-Node (Node-F.ImplicitIntersection automatic node)) child.1

pub readback : (node : Node) → node_of (tree_of node) ≡ node
readback = ind-Node Back (λ x y is.
    ap node_of (fold-roll-Node Tree layer x)
    ∙ subst (λ z. node_of (layer (map-Node Node Tree tree_of z)) ≡ roll-Node z) is (back_layer y))

pub one_tree : (a b : Node) → tree_of a ≡ tree_of b → a ≡ b
one_tree a b e = sym (readback a) ∙ ap node_of e ∙ readback b
