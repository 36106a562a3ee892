-- A node without its children and without the `@`s over it.
--   Sheet     the sheet that a reference names: its name, where one is written, and its number
--   Leaf      a node that has no children
--   Passing   a node that hands the context that it stands in to its children and has its shape from theirs
--   Closed    a node with children that import does not enter
--   Label     any of these, the spill operator, or a call of a kind of function
use Rattle.std.specs.Prelude.{ℕ, ℤ, Bool, List, Option}
use Rattle.call_core.specs.declared.function.Function.{Function}
use Rattle.value_core.specs.declared.array.ArrayNode.{ArrayNode}
use Rattle.value_core.specs.declared.error.Error.{Error}
use Rattle.value_core.specs.declared.operator.Operator.{Operator}
use Rattle.tree_core.specs.declared.corner.Corner.{Corner}
use Rattle.value_core.specs.declared.operator.OpUnary.{OpUnary}

pub record Sheet : Type 0 where
  pub name : Option (List ℕ)
  pub index : ℕ

pub data Leaf : Type 0 where
  boolean : Bool → Leaf
  number : ℤ → Leaf
  string : List ℕ → Leaf
  error : Error → Leaf
  empty : Leaf
  reference : Sheet → Corner → Leaf
  range : Sheet → Corner → Corner → Leaf
  wrong_reference : Option (List ℕ) → Corner → Leaf
  wrong_range : Option (List ℕ) → Corner → Corner → Leaf
  array : List (List ArrayNode) → Leaf
  defined_name : List ℕ → Option ℕ → List ℕ → Leaf
  table_name : List ℕ → Leaf
  named_variable : List ℕ → Option ℕ → Leaf
  parse_error : List ℕ → List ℕ → ℕ → Leaf

pub data Passing : Type 0 where
  binary : Operator → Passing
  unary : OpUnary → Passing

pub data Closed : Type 0 where
  range_operator : Closed
  named_call : List ℕ → Option ℕ → Closed
  lambda_definition : List (List ℕ) → Closed
  lambda_call : Closed

pub data Label : Type 0 where
  leaf : Leaf → Label
  passing : Passing → Label
  spill : Label
  closed : Closed → Label
  call : Function → Label
