use Rattle.std.proofs.Common.{◌≡◌, None, Some, [], ◌∷◌, ◌++◌, ◌<◌, length, map, sym, ap, ◌∙◌, arith, subst}
use Rattle.json.specs.Json.{after_end_array}
use Rattle.tree_core.specs.Formula.{tree_of}
use Rattle.formula_json.specs.Formula.{node_with}
use Rattle.straight_json.specs.Straight.{Reads}
use Rattle.straight_json.proofs.Steps.{passed-none, passed-more, passed-all, reads-shorter}
use Rattle.straight_json.proofs.Nodes.{tagged-node, nodes-more, one-tagged, two-tagged, call-tagged, named_call-tagged, intersection-tagged, lambda-tagged, lambda_call-tagged}
use Rattle.straight_json.proofs.node.+node.Goals as goal

pub read_node-returns : goal.read_node-returns
read_node-returns t c =
    let it = c.in_ok-tag.ensures in
    tagged-node c.args.depth c.args.reader.now c.take_tag.new.reader c.read_tagged.new.reader it.0 c.in_ok-tag.tag c.in_ok-node.node it.1 (omega arith) it.2 c.in_ok-node.ensures

pub read_binary-returns : goal.read_binary-returns
unfolding node_with
read_binary-returns t c =
    two-tagged _ c.args.depth c.args.reader.now c.read_node.new.reader c.read_node-2.new.reader c.take_end.new.reader c.in_ok-left.left c.in_ok-right.right c.in_ok-node.node c.in_ok-left.ensures c.in_ok-right.ensures c.in_ok-take_end.ensures c.in_ok-node.ensures

pub read_range_operator-returns : goal.read_range_operator-returns
unfolding node_with
read_range_operator-returns t c =
    two-tagged _ c.args.depth c.args.reader.now c.read_node.new.reader c.read_node-2.new.reader c.take_end.new.reader c.in_ok-left.left c.in_ok-right.right c.in_ok-node.node c.in_ok-left.ensures c.in_ok-right.ensures c.in_ok-take_end.ensures c.in_ok-node.ensures

pub read_unary-returns : goal.read_unary-returns
unfolding node_with
read_unary-returns t c =
    one-tagged _ c.args.depth c.args.reader.now c.read_node.new.reader c.take_end.new.reader c.in_ok-child.child c.in_ok-node.node c.in_ok-child.ensures c.in_ok-take_end.ensures c.in_ok-node.ensures

pub read_spill-returns : goal.read_spill-returns
unfolding node_with
read_spill-returns t c =
    one-tagged _ c.args.depth c.args.reader.now c.read_node.new.reader c.take_end.new.reader c.in_ok-child.child c.in_ok-node.node c.in_ok-child.ensures c.in_ok-take_end.ensures c.in_ok-node.ensures

pub read_call-returns : goal.read_call-returns
read_call-returns t c =
    call-tagged c.args.depth c.args.reader.now c.take_kind.new.reader c.read_arguments.new.reader c.in_ok-kind.kind c.in_ok-arguments.arguments c.call.result c.in_ok-kind.ensures c.in_ok-arguments.ensures c.call.ensures

pub read_named_call-returns : goal.read_named_call-returns
read_named_call-returns t c =
    named_call-tagged c.args.depth c.args.reader.now c.take_text.new.reader c.take_id.new.reader c.read_arguments.new.reader c.in_ok-name.name c.in_ok-id.id c.in_ok-arguments.arguments c.named_call.result c.in_ok-name.ensures c.in_ok-id.ensures
    c.in_ok-arguments.ensures c.named_call.ensures

pub read_intersection-returns : goal.read_intersection-returns
read_intersection-returns t c =
    intersection-tagged c.args.depth c.args.reader.now c.take_truth.new.reader c.read_node.new.reader c.take_end.new.reader c.in_ok-automatic.automatic c.in_ok-child.child c.in_ok-node.node c.in_ok-automatic.ensures c.in_ok-child.ensures
    c.in_ok-take_end.ensures c.in_ok-node.ensures

pub read_lambda-returns : goal.read_lambda-returns
read_lambda-returns t c =
    lambda-tagged c.args.depth c.args.reader.now c.read_value.new.reader c.read_node.new.reader c.take_end.new.reader _ c.in_ok-parameters.parameters c.in_ok-body.body c.in_ok-node.node c.in_ok-value.ensures.read c.in_ok-parameters.ensures
    c.in_ok-body.ensures c.in_ok-take_end.ensures c.in_ok-node.ensures

pub read_lambda_call-returns : goal.read_lambda_call-returns
read_lambda_call-returns t c =
    lambda_call-tagged c.args.depth c.args.reader.now c.read_node.new.reader c.read_arguments.new.reader c.in_ok-lambda.lambda c.in_ok-arguments.arguments c.in_ok-node.node c.in_ok-lambda.ensures c.in_ok-arguments.ensures c.in_ok-node.ensures

pub read_arguments-arguments-init : goal.read_arguments-arguments-init
read_arguments-arguments-init t c = ([], passed-none c.args.depth c.args.reader.now, ap (λ nodes. Some (map tree_of nodes)) (sym c.new-arguments.ensures))

pub read_arguments-arguments-smaller : goal.read_arguments-arguments-smaller
read_arguments-arguments-smaller t c =
    let l = c.arguments in
    let going : (after_end_array l.reader ≡ None) × (c.take_end_array.new.self ≡ l.reader) = grind arith in
    let it = c.in_ok-argument.ensures in
    let less : length c.read_node.new.reader < length c.take_end_array.new.self = reads-shorter c.args.depth c.take_end_array.new.self c.read_node.new.reader it.0 it.1 in
    subst (λ ts. length c.read_node.new.reader < length ts) going.1 less

pub read_arguments-arguments-preserved : goal.read_arguments-arguments-preserved
read_arguments-arguments-preserved t c =
    let l = c.arguments in
    let going : (after_end_array l.reader ≡ None) × (c.take_end_array.new.self ≡ l.reader) = grind arith in
    let it = c.in_ok-argument.ensures in
    let first : Reads c.args.depth l.reader it.0 c.read_node.new.reader = rw (← going.1) it.1 in (
      l.invariant.0 ++ it.0 ∷ [],
      passed-more c.args.depth c.args.reader.now l.reader c.read_node.new.reader l.invariant.0 it.0 l.invariant.1 first,
      nodes-more l.invariant.0 it.0 l.arguments c.in_ok-argument.argument l.invariant.2 it.2 ∙ ap (λ nodes. Some (map tree_of nodes)) (sym c.in_ok-add.ensures.done),
    )

pub read_arguments-returns : goal.read_arguments-returns
read_arguments-returns t c =
    let l = c.arguments in
    (l.invariant.0, passed-all c.args.depth c.args.reader.now l.reader c.take_end_array.new.self l.invariant.0 l.invariant.1 (grind arith), l.invariant.2)
