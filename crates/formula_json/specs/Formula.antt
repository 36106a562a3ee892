-- The JSON form of a formula. A node is an array: its tag, and behind it what the tag asks for.
--
-- `child_at`         the node at a place, of the nodes that stand at each place
-- `arguments_from`   the nodes at a place and behind it, of the nodes that stand at each place
-- `one_of`, `two_of` a node over one child, over two
-- `call_of`          a call of a function
-- `named_call_of`    a call of a function that a name stands for
-- `intersection_of`  the operator `@`
-- `lambda_of`        a function: its parameters and its body
-- `lambda_call_of`   a call of such a function
-- `node_with`        the node with a tag, of what stands at each place and which node that is
-- `node_in`          the node that an array is, of what stands at each place and which node that is
-- `node_of`          the formula that a JSON value is
-- `nodes_of`         the formula that each element of an array is
-- `node_seen`        the formula that a parsed value is
-- `label_own`, `here_own`  what is written of a node besides its tag and its children, of what stands at a node
-- `under_run`        a form under the `@`s over it
-- `data_of`, `all_data`, `node_data`  the JSON value that is written of a formula
use Rattle.std.specs.Prelude.{ℕ, List, [], ◌∷◌, ◌++◌, slice_get, drop, Option, Some, None, option_map}
use Rattle.serde_json.specs.Data.{Data, null, boolean, number, string, array, object, Items, no_items, item}
use Rattle.serde_json.specs.View.{view}
use Rattle.serde_json.specs.declared.value.Value.{Value}
use Rattle.tree_core.specs.Formula.{one, two, bare_leaf, tree_of}
use Rattle.tree_core.specs.Label.{Label, leaf, passing, binary, unary, spill, closed, call, range_operator, named_call, lambda_definition, lambda_call}
use Rattle.tree_core.specs.Tree.{Run, Tree, tree, Trees, none, more, forest, under}
use Rattle.tree_core.specs.View.{Here, bare, at}
use Rattle.tree_core.specs.declared.node.Node.{Node}
use Rattle.value_json.specs.Fields.{◌>>=◌, elements_of, if_long, id_at, truth_at, text_at}
use Rattle.value_json.specs.Piece.{tagged_list, number_or_null}
use Rattle.value_json.specs.Texts.{texts_in, texts_data}
use Rattle.value_json.specs.Traverse.{traverse}
use Rattle.formula_json.specs.declared.tag.Tag.{Tag}
use Rattle.formula_json.specs.declared.tag.Tag.TheVariants as tag
use Rattle.formula_json.specs.Kinds.{kind_at, kind_data}
use Rattle.formula_json.specs.Leaves.{leaf_of, leaf_own}
use Rattle.formula_json.specs.Tags.{tag_at, here_name}

unfoldable pub child_at : ℕ → List (Option Tree) → Option Tree
child_at place nodes = do
  node ← slice_get nodes place
  node

unfoldable pub arguments_from : ℕ → List (Option Tree) → Option (List Tree)
arguments_from place nodes = traverse (λ node. node) (drop place nodes)

unfoldable pub one_of : Label → List Data → List (Option Tree) → Option Tree
one_of label places nodes = if_long 2 places do
  child ← child_at 1 nodes
  Some (tree [] label (one child))

unfoldable pub two_of : Label → List Data → List (Option Tree) → Option Tree
two_of label places nodes = if_long 3 places do
  left ← child_at 1 nodes
  right ← child_at 2 nodes
  Some (tree [] label (two left right))

unfoldable pub call_of : List Data → List (Option Tree) → Option Tree
call_of places nodes = do
  kind ← kind_at 1 places
  arguments ← arguments_from 2 nodes
  Some (tree [] (call kind) (forest arguments))

unfoldable pub named_call_of : List Data → List (Option Tree) → Option Tree
named_call_of places nodes = do
  name ← text_at 1 places
  id ← id_at 2 places
  arguments ← arguments_from 3 nodes
  Some (tree [] (closed (named_call name id)) (forest arguments))

unfoldable pub intersection_of : List Data → List (Option Tree) → Option Tree
intersection_of places nodes = if_long 3 places do
  automatic ← truth_at 1 places
  child ← child_at 2 nodes
  Some (under automatic child)

unfoldable pub lambda_of : List Data → List (Option Tree) → Option Tree
lambda_of places nodes = if_long 3 places do
  parameters ← slice_get places 1 >>= texts_in
  body ← child_at 2 nodes
  Some (tree [] (closed (lambda_definition parameters)) (one body))

unfoldable pub lambda_call_of : List (Option Tree) → Option Tree
lambda_call_of nodes = do
  lambda ← child_at 1 nodes
  arguments ← arguments_from 2 nodes
  Some (tree [] (closed lambda_call) (more lambda (forest arguments)))

unfoldable pub node_with : Tag → List Data → List (Option Tree) → Option Tree
node_with (tag.Leaf sort) places nodes = option_map bare_leaf (leaf_of sort places)
node_with tag.RangeOperator places nodes = two_of (closed range_operator) places nodes
node_with (tag.Binary operator) places nodes = two_of (passing (binary operator)) places nodes
node_with (tag.Unary kind) places nodes = one_of (passing (unary kind)) places nodes
node_with tag.Spill places nodes = one_of spill places nodes
node_with tag.Call places nodes = call_of places nodes
node_with tag.NamedCall places nodes = named_call_of places nodes
node_with tag.Intersection places nodes = intersection_of places nodes
node_with tag.Lambda places nodes = lambda_of places nodes
node_with tag.LambdaCall places nodes = lambda_call_of nodes

unfoldable pub node_in : List Data → List (Option Tree) → Option Tree
node_in places nodes = do
  tag ← tag_at 0 places
  node_with tag places nodes

unfoldable mutual
  pub node_of : Data → Option Tree
  node_of null = None
  node_of (boolean _) = None
  node_of (number _) = None
  node_of (string _) = None
  node_of (array items) = node_in (elements_of items) (nodes_of items)
  node_of (object _) = None

  pub nodes_of : Items → List (Option Tree)
  nodes_of no_items = []
  nodes_of (item datum items) = node_of datum ∷ nodes_of items

abbrev pub node_seen : Value → Option Tree
node_seen value = node_of (view value)

abbrev pub label_own : Label → List Data
label_own (leaf l) = leaf_own l
label_own (closed (named_call name id)) = string name ∷ number_or_null id ∷ []
label_own (closed (lambda_definition parameters)) = texts_data parameters ∷ []
label_own (call kind) = kind_data kind ∷ []
label_own label = []

abbrev pub here_own : Here → List Data
here_own (bare label) = label_own label
here_own (at automatic) = boolean automatic ∷ []

abbrev pub under_run : Run → Data → Data
under_run [] form = form
under_run (automatic ∷ run) form = tagged_list (here_name (at automatic)) (boolean automatic ∷ under_run run form ∷ [])

abbrev mutual
  pub data_of : Tree → Data
  data_of (tree run label ts) = under_run run (tagged_list (here_name (bare label)) (label_own label ++ all_data ts))

  pub all_data : Trees → List Data
  all_data none = []
  all_data (more t ts) = data_of t ∷ all_data ts

abbrev pub node_data : Node → Data
node_data node = data_of (tree_of node)
