-- What a formula means: the value of each node, by the values of its children.
--   reference_found  a reference, range_ends a range, by where their ends lie
--   literal_found    an array literal; one that is no rectangle, or larger than a sheet, is #VALUE!
--   leaf_found       a node without children
--   passed_found     an operator, over what its sides came to
--   closed_found     a range operator, over its sides; other nodes that import doesn't enter have no values here
--   call_found       a call, over its arguments: by the table of kinds, over their values, or by the rules of the own kinds
--   node_found       a bare node over what its children came to
--   found_of         what a formula comes to, and found_all, each of some formulas
--   mean             the value of a formula: a rectangle. A blank or missing one is one blank
use Rattle.std.specs.Prelude.{if◌then◌else◌, List, [], ◌∷◌, map, Option, Some, None}
use Rattle.call_core.specs.declared.function.Function.{Function}
use Rattle.call_core.specs.declared.function.Function.TheVariants.{Other}
use Rattle.value_core.specs.declared.array.ArrayNode.{ArrayNode}
use Rattle.value_core.specs.declared.array.ArrayNode.TheVariants.{Empty}
use Rattle.value_core.specs.declared.error.Error.TheVariants.{REF, NIMPL, ERROR, VALUE}
use Rattle.value_core.specs.declared.position.CellReferenceIndex.{CellReferenceIndex}
use Rattle.rectangle_core.specs.declared.value.Value.{Value}
use Rattle.operand_core.specs.Each.{each_of}
use Rattle.operand_core.specs.Side.{side}
use Rattle.grid_core.specs.Broadcast.{broadcast}
use Rattle.grid_core.specs.Combine.{combine_one}
use Rattle.grid_core.specs.declared.calc_result.CalcResult.{CalcResult}
use Rattle.grid_core.specs.declared.calc_result.CalcResult.TheVariants as calc
use Rattle.corner_core.specs.End.{end_at}
use Rattle.tree_core.specs.Label.{Leaf, boolean, number, string, error, empty, reference, range, wrong_reference, wrong_range, array, defined_name, table_name, named_variable, parse_error, Passing, binary, unary, Closed, range_operator, Label, leaf, passing, spill, closed, call}
use Rattle.tree_core.specs.Tree.{Tree, tree, Trees, none, more}
use Rattle.result_core.specs.Finding.{wrong, of_value, value_found, with_reference}
use Rattle.result_core.specs.Intersection.{under_run}
use Rattle.result_core.specs.Span.{range_between, span_of}
use Rattle.result_core.specs.declared.found.Found.{Found}
use Rattle.result_core.specs.declared.found.Found.TheVariants.{Cell, Same}
use Rattle.validity_core.specs.Good.{is_array}
use Rattle.eval_core.specs.Setting.{Setting}
use Rattle.own_functions.specs.Own.{own_found}

abbrev pub reference_found : CellReferenceIndex → Option CellReferenceIndex → Found
reference_found cell (Some at) = Cell at
reference_found cell None = Same (wrong cell REF)

abbrev pub range_ends : CellReferenceIndex → Option CellReferenceIndex → Option CellReferenceIndex → CalcResult
range_ends cell (Some a) (Some b) = range_between a b
range_ends cell (Some a) None = wrong cell REF
range_ends cell None right = wrong cell REF

abbrev pub literal_found : CellReferenceIndex → List (List ArrayNode) → CalcResult
literal_found cell rows = if is_array rows then calc.Array rows else wrong cell VALUE

abbrev pub leaf_found : CellReferenceIndex → Leaf → Found
leaf_found cell (boolean b) = Same (calc.Boolean b)
leaf_found cell (number n) = Same (calc.Number n)
leaf_found cell (string text) = Same (calc.String text)
leaf_found cell (error e) = Same (wrong cell e)
leaf_found cell empty = Same calc.EmptyArg
leaf_found cell (reference sheet corner) = reference_found cell (end_at cell sheet.index corner)
leaf_found cell (range sheet left right) = Same (range_ends cell (end_at cell sheet.index left) (end_at cell sheet.index right))
leaf_found cell (wrong_reference name corner) = Same (wrong cell REF)
leaf_found cell (wrong_range name left right) = Same (wrong cell REF)
leaf_found cell (array rows) = Same (literal_found cell rows)
leaf_found cell (defined_name name scope text) = Same (wrong cell NIMPL)
leaf_found cell (table_name name) = Same (wrong cell NIMPL)
leaf_found cell (named_variable name id) = Same (wrong cell NIMPL)
leaf_found cell (parse_error formula message position) = Same (wrong cell ERROR)

abbrev pub value_in : Setting → Found → Value
value_in here found = value_found here.book here.cell found

abbrev pub passed_found : Setting → Passing → List Found → Found
passed_found here (binary operator) (left ∷ right ∷ []) = Same (of_value here.cell (broadcast operator (value_in here left) (value_in here right)))
passed_found here (unary operator) (operand ∷ []) = Same (of_value here.cell (each_of (combine_one operator) (value_in here operand)))
passed_found here operator sides = Same (wrong here.cell NIMPL)

abbrev pub closed_found : Setting → Closed → List Found → Found
closed_found here range_operator (left ∷ right ∷ []) = Same (span_of here.cell (with_reference left) (with_reference right))
closed_found here other children = Same (wrong here.cell NIMPL)

abbrev pub call_found : Setting → Function → List Found → Found
call_found here (Other id) args = Same (of_value here.cell (here.table.value id (map (value_in here) args)))
call_found here kind args = own_found here.book here.limit here.cell kind args

abbrev pub node_found : Setting → Label → List Found → Found
node_found here (leaf l) children = leaf_found here.cell l
node_found here (passing p) children = passed_found here p children
node_found here spill children = Same (wrong here.cell NIMPL)
node_found here (closed c) children = closed_found here c children
node_found here (call kind) children = call_found here kind children

abbrev mutual
  pub found_of : Setting → Tree → Found
  found_of here (tree run label ts) = under_run here.cell run (node_found here label (found_all here ts))

  pub found_all : Setting → Trees → List Found
  found_all here none = []
  found_all here (more t ts) = found_of here t ∷ found_all here ts

abbrev pub mean : Setting → Tree → List (List ArrayNode)
mean here t = side Empty (value_in here (found_of here t))
