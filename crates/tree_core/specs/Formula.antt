-- What a `Node` means apart from memory.
--   one, two      a tree's children, one or two of them
--   bare_leaf     a bare node without children
--   between       a bare operator between two sides
--   corner        where an end of a reference lies
--   layer         the tree of a node whose children are seen as their trees
--   tree_of       the tree of a node
--   TreesFixTheFormula  a formula is fixed by its tree
use Rattle.std.specs.Prelude.{◌≡◌, ℤ, Bool, []}
use Rattle.tree_core.specs.Label.{Leaf, leaf, passing, spill, closed, call}
use Rattle.tree_core.specs.Label.{boolean, number, string, error, empty, reference, range, wrong_reference, wrong_range, array, defined_name, table_name, named_variable, parse_error}
use Rattle.value_core.specs.declared.operator.Operator.{Operator}
use Rattle.value_core.specs.declared.operator.Operator.TheVariants.{Concatenate, Power, Sum, Product, Compare}
use Rattle.tree_core.specs.Label.{binary, unary, range_operator, named_call, lambda_definition, lambda_call}
use Rattle.tree_core.specs.Tree.{Tree, tree, Trees, none, more, forest, under}
use Rattle.tree_core.specs.declared.corner.Corner.{Corner}
use Rattle.tree_core.specs.declared.node.Node.{Node}
use Rattle.tree_core.specs.declared.node.Node.TheOpen.{Node-F}
use Rattle.tree_core.specs.declared.node.Node.TheFolds.{fold-Node}

abbrev pub one : Tree → Trees
one t = more t none

abbrev pub two : Tree → Tree → Trees
two t u = more t (more u none)

abbrev pub bare_leaf : Leaf → Tree
bare_leaf l = tree [] (leaf l) none

abbrev pub between : Operator → Tree → Tree → Tree
between operator left right = tree [] (passing (binary operator)) (two left right)

abbrev pub corner : Bool → Bool → ℤ → ℤ → Corner
corner absolute_row absolute_column row column = record { absolute_row = absolute_row; absolute_column = absolute_column; row = row; column = column }

abbrev pub layer : Node-F Tree → Tree
layer (Node-F.BooleanKind b) = bare_leaf (boolean b)
layer (Node-F.NumberKind n) = bare_leaf (number n)
layer (Node-F.StringKind text) = bare_leaf (string text)
layer (Node-F.ErrorKind e) = bare_leaf (error e)
layer Node-F.EmptyArgKind = bare_leaf empty
layer (Node-F.ReferenceKind name index absolute_row absolute_column row column) =
    bare_leaf (reference (record { name = name; index = index }) (corner absolute_row absolute_column row column))
layer (Node-F.RangeKind name index absolute_row1 absolute_column1 row1 column1 absolute_row2 absolute_column2 row2 column2) =
    bare_leaf (range (record { name = name; index = index }) (corner absolute_row1 absolute_column1 row1 column1) (corner absolute_row2 absolute_column2 row2 column2))
layer (Node-F.WrongReferenceKind name absolute_row absolute_column row column) =
    bare_leaf (wrong_reference name (corner absolute_row absolute_column row column))
layer (Node-F.WrongRangeKind name absolute_row1 absolute_column1 row1 column1 absolute_row2 absolute_column2 row2 column2) =
    bare_leaf (wrong_range name (corner absolute_row1 absolute_column1 row1 column1) (corner absolute_row2 absolute_column2 row2 column2))
layer (Node-F.OpRangeKind left right) = tree [] (closed range_operator) (two left right)
layer (Node-F.OpConcatenateKind left right) = between Concatenate left right
layer (Node-F.OpSumKind kind left right) = between (Sum kind) left right
layer (Node-F.OpProductKind kind left right) = between (Product kind) left right
layer (Node-F.OpPowerKind left right) = between Power left right
layer (Node-F.FunctionKind kind args) = tree [] (call kind) (forest args)
layer (Node-F.NamedFunctionKind name id args) = tree [] (closed (named_call name id)) (forest args)
layer (Node-F.ArrayKind rows) = bare_leaf (array rows)
layer (Node-F.DefinedNameKind name) = bare_leaf (defined_name name.0 name.1 name.2)
layer (Node-F.TableNameKind name) = bare_leaf (table_name name)
layer (Node-F.NamedVariableKind name id) = bare_leaf (named_variable name id)
layer (Node-F.CompareKind kind left right) = between (Compare kind) left right
layer (Node-F.UnaryKind kind right) = tree [] (passing (unary kind)) (one right)
layer (Node-F.ParseErrorKind formula message position) = bare_leaf (parse_error formula message position)
layer (Node-F.ImplicitIntersection automatic child) = under automatic child
layer (Node-F.SpillRangeOperator child) = tree [] spill (one child)
layer (Node-F.LambdaDefKind parameters body) = tree [] (closed (lambda_definition parameters)) (one body)
layer (Node-F.LambdaCallKind lambda args) = tree [] (closed lambda_call) (more lambda (forest args))

abbrev pub tree_of : Node → Tree
tree_of = fold-Node Tree layer

abbrev pub TreesFixTheFormula : Type 0
TreesFixTheFormula = (a b : Node) → tree_of a ≡ tree_of b → a ≡ b
