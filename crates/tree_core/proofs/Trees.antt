-- The tree of each variant of a node, from the trees of its parts.
--   tree_of-VARIANT
--   operators, trees  those of the operators between two sides, and all
use Rattle.std.proofs.Common.{◌≡◌, ℕ, ℤ, Bool, List, map, Option, sym, ap, ◌∙◌}
use Rattle.tree_core.specs.Tree.{Tree}
use Rattle.tree_core.specs.Formula.{layer, tree_of}
use Rattle.call_core.specs.declared.function.Function.{Function}
use Rattle.value_core.specs.declared.array.ArrayNode.{ArrayNode}
use Rattle.value_core.specs.declared.error.Error.{Error}
use Rattle.tree_core.specs.declared.defined_name.DefinedNameS.{DefinedNameS}
use Rattle.value_core.specs.declared.operator.OpSum.{OpSum}
use Rattle.value_core.specs.declared.operator.OpProduct.{OpProduct}
use Rattle.value_core.specs.declared.operator.OpCompare.{OpCompare}
use Rattle.value_core.specs.declared.operator.OpUnary.{OpUnary}
use Rattle.tree_core.specs.declared.node.Node.{Node}
use Rattle.tree_core.specs.declared.node.Node.TheOpen.{Node-F}
use Rattle.tree_core.specs.declared.node.Node.TheFolds.{fold-roll-Node}
use Rattle.tree_core.specs.declared.node.Node.TheVariants.{BooleanKind, NumberKind, StringKind, ErrorKind, EmptyArgKind, ReferenceKind, RangeKind, WrongReferenceKind, WrongRangeKind, OpRangeKind, OpConcatenateKind, OpSumKind, OpProductKind, OpPowerKind, FunctionKind, NamedFunctionKind, ArrayKind, DefinedNameKind, TableNameKind, NamedVariableKind, CompareKind, UnaryKind, ParseErrorKind, ImplicitIntersection, SpillRangeOperator, LambdaDefKind, LambdaCallKind, rolls-BooleanKind, rolls-NumberKind, rolls-StringKind, rolls-ErrorKind, rolls-EmptyArgKind, rolls-ReferenceKind, rolls-RangeKind, rolls-WrongReferenceKind, rolls-WrongRangeKind, rolls-OpRangeKind, rolls-OpConcatenateKind, rolls-OpSumKind, rolls-OpProductKind, rolls-OpPowerKind, rolls-FunctionKind, rolls-NamedFunctionKind, rolls-ArrayKind, rolls-DefinedNameKind, rolls-TableNameKind, rolls-NamedVariableKind, rolls-CompareKind, rolls-UnaryKind, rolls-ParseErrorKind, rolls-ImplicitIntersection, rolls-SpillRangeOperator, rolls-LambdaDefKind, rolls-LambdaCallKind}

pub tree_of-boolean : (b : Bool) → tree_of (BooleanKind b) ≡ layer (Node-F.BooleanKind b)
tree_of-boolean b = ap tree_of (sym (rolls-BooleanKind b)) ∙ fold-roll-Node Tree layer (Node-F.BooleanKind b)

pub tree_of-number : (n : ℤ) → tree_of (NumberKind n) ≡ layer (Node-F.NumberKind n)
tree_of-number n = ap tree_of (sym (rolls-NumberKind n)) ∙ fold-roll-Node Tree layer (Node-F.NumberKind n)

pub tree_of-string : (text : List ℕ) → tree_of (StringKind text) ≡ layer (Node-F.StringKind text)
tree_of-string text = ap tree_of (sym (rolls-StringKind text)) ∙ fold-roll-Node Tree layer (Node-F.StringKind text)

pub tree_of-error : (e : Error) → tree_of (ErrorKind e) ≡ layer (Node-F.ErrorKind e)
tree_of-error e = ap tree_of (sym (rolls-ErrorKind e)) ∙ fold-roll-Node Tree layer (Node-F.ErrorKind e)

pub tree_of-empty_arg : tree_of EmptyArgKind ≡ layer Node-F.EmptyArgKind
tree_of-empty_arg = ap tree_of (sym rolls-EmptyArgKind) ∙ fold-roll-Node Tree layer Node-F.EmptyArgKind

pub tree_of-reference : (name : Option (List ℕ)) (index : ℕ) (ar : Bool) (ac : Bool) (r : ℤ) (c : ℤ) → tree_of (ReferenceKind name index ar ac r c) ≡ layer (Node-F.ReferenceKind name index ar ac r c)
tree_of-reference name index ar ac r c = ap tree_of (sym (rolls-ReferenceKind name index ar ac r c)) ∙ fold-roll-Node Tree layer (Node-F.ReferenceKind name index ar ac r c)

pub tree_of-range : (name : Option (List ℕ)) (index : ℕ) (ar : Bool) (ac : Bool) (r : ℤ) (c : ℤ) (ar2 : Bool) (ac2 : Bool) (r2 : ℤ) (c2 : ℤ) → tree_of (RangeKind name index ar ac r c ar2 ac2 r2 c2) ≡ layer (Node-F.RangeKind name index ar ac r c ar2 ac2 r2 c2)
tree_of-range name index ar ac r c ar2 ac2 r2 c2 = ap tree_of (sym (rolls-RangeKind name index ar ac r c ar2 ac2 r2 c2)) ∙ fold-roll-Node Tree layer (Node-F.RangeKind name index ar ac r c ar2 ac2 r2 c2)

pub tree_of-wrong_reference : (name : Option (List ℕ)) (ar : Bool) (ac : Bool) (r : ℤ) (c : ℤ) → tree_of (WrongReferenceKind name ar ac r c) ≡ layer (Node-F.WrongReferenceKind name ar ac r c)
tree_of-wrong_reference name ar ac r c = ap tree_of (sym (rolls-WrongReferenceKind name ar ac r c)) ∙ fold-roll-Node Tree layer (Node-F.WrongReferenceKind name ar ac r c)

pub tree_of-wrong_range : (name : Option (List ℕ)) (ar : Bool) (ac : Bool) (r : ℤ) (c : ℤ) (ar2 : Bool) (ac2 : Bool) (r2 : ℤ) (c2 : ℤ) → tree_of (WrongRangeKind name ar ac r c ar2 ac2 r2 c2) ≡ layer (Node-F.WrongRangeKind name ar ac r c ar2 ac2 r2 c2)
tree_of-wrong_range name ar ac r c ar2 ac2 r2 c2 = ap tree_of (sym (rolls-WrongRangeKind name ar ac r c ar2 ac2 r2 c2)) ∙ fold-roll-Node Tree layer (Node-F.WrongRangeKind name ar ac r c ar2 ac2 r2 c2)

pub tree_of-op_range : (left : Node) (right : Node) → tree_of (OpRangeKind left right) ≡ layer (Node-F.OpRangeKind (tree_of left) (tree_of right))
tree_of-op_range left right = ap tree_of (sym (rolls-OpRangeKind left right)) ∙ fold-roll-Node Tree layer (Node-F.OpRangeKind left right)

pub tree_of-op_concatenate : (left : Node) (right : Node) → tree_of (OpConcatenateKind left right) ≡ layer (Node-F.OpConcatenateKind (tree_of left) (tree_of right))
tree_of-op_concatenate left right = ap tree_of (sym (rolls-OpConcatenateKind left right)) ∙ fold-roll-Node Tree layer (Node-F.OpConcatenateKind left right)

pub tree_of-op_sum : (kind : OpSum) (left : Node) (right : Node) → tree_of (OpSumKind kind left right) ≡ layer (Node-F.OpSumKind kind (tree_of left) (tree_of right))
tree_of-op_sum kind left right = ap tree_of (sym (rolls-OpSumKind kind left right)) ∙ fold-roll-Node Tree layer (Node-F.OpSumKind kind left right)

pub tree_of-op_product : (kind : OpProduct) (left : Node) (right : Node) → tree_of (OpProductKind kind left right) ≡ layer (Node-F.OpProductKind kind (tree_of left) (tree_of right))
tree_of-op_product kind left right = ap tree_of (sym (rolls-OpProductKind kind left right)) ∙ fold-roll-Node Tree layer (Node-F.OpProductKind kind left right)

pub tree_of-op_power : (left : Node) (right : Node) → tree_of (OpPowerKind left right) ≡ layer (Node-F.OpPowerKind (tree_of left) (tree_of right))
tree_of-op_power left right = ap tree_of (sym (rolls-OpPowerKind left right)) ∙ fold-roll-Node Tree layer (Node-F.OpPowerKind left right)

pub tree_of-function : (kind : Function) (args : List Node) → tree_of (FunctionKind kind args) ≡ layer (Node-F.FunctionKind kind (map tree_of args))
tree_of-function kind args = ap tree_of (sym (rolls-FunctionKind kind args)) ∙ fold-roll-Node Tree layer (Node-F.FunctionKind kind args)

pub tree_of-named_function : (name : List ℕ) (id : Option ℕ) (args : List Node) → tree_of (NamedFunctionKind name id args) ≡ layer (Node-F.NamedFunctionKind name id (map tree_of args))
tree_of-named_function name id args = ap tree_of (sym (rolls-NamedFunctionKind name id args)) ∙ fold-roll-Node Tree layer (Node-F.NamedFunctionKind name id args)

pub tree_of-array : (rows : List (List ArrayNode)) → tree_of (ArrayKind rows) ≡ layer (Node-F.ArrayKind rows)
tree_of-array rows = ap tree_of (sym (rolls-ArrayKind rows)) ∙ fold-roll-Node Tree layer (Node-F.ArrayKind rows)

pub tree_of-defined_name : (name : DefinedNameS) → tree_of (DefinedNameKind name) ≡ layer (Node-F.DefinedNameKind name)
tree_of-defined_name name = ap tree_of (sym (rolls-DefinedNameKind name)) ∙ fold-roll-Node Tree layer (Node-F.DefinedNameKind name)

pub tree_of-table_name : (name : List ℕ) → tree_of (TableNameKind name) ≡ layer (Node-F.TableNameKind name)
tree_of-table_name name = ap tree_of (sym (rolls-TableNameKind name)) ∙ fold-roll-Node Tree layer (Node-F.TableNameKind name)

pub tree_of-named_variable : (name : List ℕ) (id : Option ℕ) → tree_of (NamedVariableKind name id) ≡ layer (Node-F.NamedVariableKind name id)
tree_of-named_variable name id = ap tree_of (sym (rolls-NamedVariableKind name id)) ∙ fold-roll-Node Tree layer (Node-F.NamedVariableKind name id)

pub tree_of-compare : (kind : OpCompare) (left : Node) (right : Node) → tree_of (CompareKind kind left right) ≡ layer (Node-F.CompareKind kind (tree_of left) (tree_of right))
tree_of-compare kind left right = ap tree_of (sym (rolls-CompareKind kind left right)) ∙ fold-roll-Node Tree layer (Node-F.CompareKind kind left right)

pub tree_of-unary : (kind : OpUnary) (right : Node) → tree_of (UnaryKind kind right) ≡ layer (Node-F.UnaryKind kind (tree_of right))
tree_of-unary kind right = ap tree_of (sym (rolls-UnaryKind kind right)) ∙ fold-roll-Node Tree layer (Node-F.UnaryKind kind right)

pub tree_of-parse_error : (formula : List ℕ) (message : List ℕ) (position : ℕ) → tree_of (ParseErrorKind formula message position) ≡ layer (Node-F.ParseErrorKind formula message position)
tree_of-parse_error formula message position = ap tree_of (sym (rolls-ParseErrorKind formula message position)) ∙ fold-roll-Node Tree layer (Node-F.ParseErrorKind formula message position)

pub tree_of-implicit_intersection : (automatic : Bool) (child : Node) → tree_of (ImplicitIntersection automatic child) ≡ layer (Node-F.ImplicitIntersection automatic (tree_of child))
tree_of-implicit_intersection automatic child = ap tree_of (sym (rolls-ImplicitIntersection automatic child)) ∙ fold-roll-Node Tree layer (Node-F.ImplicitIntersection automatic child)

pub tree_of-spill_range_operator : (child : Node) → tree_of (SpillRangeOperator child) ≡ layer (Node-F.SpillRangeOperator (tree_of child))
tree_of-spill_range_operator child = ap tree_of (sym (rolls-SpillRangeOperator child)) ∙ fold-roll-Node Tree layer (Node-F.SpillRangeOperator child)

pub tree_of-lambda_def : (parameters : List (List ℕ)) (body : Node) → tree_of (LambdaDefKind parameters body) ≡ layer (Node-F.LambdaDefKind parameters (tree_of body))
tree_of-lambda_def parameters body = ap tree_of (sym (rolls-LambdaDefKind parameters body)) ∙ fold-roll-Node Tree layer (Node-F.LambdaDefKind parameters body)

pub tree_of-lambda_call : (lambda : Node) (args : List Node) → tree_of (LambdaCallKind lambda args) ≡ layer (Node-F.LambdaCallKind (tree_of lambda) (map tree_of args))
tree_of-lambda_call lambda args = ap tree_of (sym (rolls-LambdaCallKind lambda args)) ∙ fold-roll-Node Tree layer (Node-F.LambdaCallKind lambda args)

pub ruleset operators = (tree_of-op_concatenate, tree_of-op_power, tree_of-op_sum, tree_of-op_product, tree_of-compare)

pub ruleset trees = (tree_of-boolean, tree_of-number, tree_of-string, tree_of-error, tree_of-empty_arg, tree_of-reference, tree_of-range, tree_of-wrong_reference, tree_of-wrong_range, tree_of-op_range, tree_of-op_concatenate, tree_of-op_sum, tree_of-op_product, tree_of-op_power, tree_of-function, tree_of-named_function, tree_of-array, tree_of-defined_name, tree_of-table_name, tree_of-named_variable, tree_of-compare, tree_of-unary, tree_of-parse_error, tree_of-implicit_intersection, tree_of-spill_range_operator, tree_of-lambda_def, tree_of-lambda_call)
