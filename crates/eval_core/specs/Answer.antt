-- What the calls of an evaluator answer.
--   context_of, reference_of   a formula in context, and with reference
--   array_in                   a formula as a rectangle, or its error
--   called                     what a call of a kind with rules of its own answers, over its arguments
use Rattle.std.specs.Prelude.{List, map, Result, Ok, Err}
use Rattle.value_core.specs.declared.array.ArrayNode.{ArrayNode}
use Rattle.value_core.specs.declared.error.Error.{Error}
use Rattle.value_core.specs.declared.position.CellReferenceIndex.{CellReferenceIndex}
use Rattle.grid_core.specs.declared.calc_result.CalcResult.{CalcResult}
use Rattle.call_core.specs.declared.function.Function.{Function}
use Rattle.tree_core.specs.Formula.{tree_of}
use Rattle.tree_core.specs.Tree.{Tree}
use Rattle.tree_core.specs.declared.node.Node.{Node}
use Rattle.own_functions.specs.Own.{own_result}
use Rattle.result_core.specs.Finding.{array_of, in_context, with_reference, wrong}
use Rattle.eval_core.specs.Setting.{Setting}
use Rattle.eval_core.specs.Meaning.{found_of}

abbrev pub context_of : Setting → Tree → CalcResult
context_of here t = in_context here.book here.cell (found_of here t)

abbrev pub reference_of : Setting → Tree → CalcResult
reference_of here t = with_reference (found_of here t)

abbrev pub or_wrong : {X : Type 0} → CellReferenceIndex → Result X Error → Result X CalcResult
or_wrong cell (Ok x) = Ok x
or_wrong cell (Err e) = Err (wrong cell e)

abbrev pub array_in : Setting → Tree → Result (List (List ArrayNode)) CalcResult
array_in here t = or_wrong here.cell (array_of here.book (context_of here t))

abbrev pub called : Setting → Function → List Node → CalcResult
called here kind args = own_result here.book here.limit here.cell kind (map (λ arg. found_of here (tree_of arg)) args)
