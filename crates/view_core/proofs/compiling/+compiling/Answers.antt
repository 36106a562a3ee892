use Rattle.std.proofs.Common.{rules, ◌≡◌, ◌*◌, ◌+◌, ◌<◌, ◌≤◌, [], get_or, length, map, Ok, sym, subst, ap, ◌∙◌, arith}
use denote.Param.Weighed.{most}
use Rattle.tree_core.specs.Formula.{tree_of}
use Rattle.tree_core.specs.Label.{call}
use Rattle.tree_core.specs.Tree.{tree, forest}
use Rattle.tree_core.specs.declared.node.Node.{size-Node}
use Rattle.argument_core.specs.Argument.{array_in}
use Rattle.argument_core.specs.Check.{each}
use Rattle.eval_core.specs.Meaning.{found_of}
use Rattle.eval_core.specs.Setting.{setting}
use Rattle.nest_core.specs.Plain.{is_plain_nest}
use Rattle.nest_core.specs.Rows.{rows_in}
use Rattle.view_core.proofs.Compilings.{broken-told, called-plain, compiled-call, compiled-refused, grown, most-front, shows-over, shows-told, split-args, take-whole}
use Rattle.view_core.proofs.Constants.{literals-constant}
use Rattle.view_core.proofs.compiling.+compiling.Goals as goal

pub compile-compiled_call-requires : goal.compile-compiled_call-requires
compile-compiled_call-requires t c =
    let whole = c.in-Call.ensures.tree ∙ ap (λ nodes. tree [] (call c.in-Call.kind) (forest (map tree_of nodes))) (sym c.as_slice.ensures) in
    let plain = called-plain (tree_of c.args.node.now) c.in-Call.kind c.as_slice.result.now whole c.requires.plain in
    let falls = subst (λ nodes. most size-Node nodes < size-Node c.args.node.now) (sym c.as_slice.ensures) c.in-Call.ensures.falls in
    let less : 3 * most size-Node c.as_slice.result.now + 2 < t = omega (arith, falls, c.decreases) in
    (less, (c.requires.limited, (plain.0, plain.1)))

pub compile-returns-in-Call : goal.compile-returns-in-Call
compile-returns-in-Call t c =
    let whole = c.in-Call.ensures.tree ∙ ap (λ nodes. tree [] (call c.in-Call.kind) (forest (map tree_of nodes))) (sym c.as_slice.ensures) in
    let plain = called-plain (tree_of c.args.node.now) c.in-Call.kind c.as_slice.result.now whole c.requires.plain in
    compiled-call c.args.limit c.args.cell c.in-Call.kind c.as_slice.result.now (tree_of c.args.node.now) c.compiled_call.result whole plain.0 c.compiled_call.ensures

pub compiled_call-returns-in-Some : goal.compiled_call-returns-in-Some
compiled_call-returns-in-Some t c table book =
    compiled-refused (setting table book c.args.limit c.args.cell) c.args.kind c.args.args.now c.in-Some.error c.requires.kind (sym c.arguments_refused.ensures ∙ c.in-Some.is)

pub compiled_call-compile_all-requires : goal.compiled_call-compile_all-requires
compiled_call-compile_all-requires t c =
    let split = split-args c.args.limit c.args.cell c.args.kind c.args.args.now c.split_at.result.0.now c.split_at.result.1.now (c.split_at.ensures.by_index.0)
    (sym c.arguments_refused.ensures ∙ c.in_default.is) (c.split_at.ensures.front_len ∙ c.arrays_of.ensures) c.requires.arguments in
    let front = subst (λ nodes. most size-Node c.split_at.result.0.now ≤ most size-Node nodes) (sym (c.split_at.ensures.by_index.0)) (most-front c.split_at.result.0.now c.split_at.result.1.now) in
    let less : 3 * most size-Node c.split_at.result.0.now + 1 < t = omega (arith, front, c.decreases) in
    (less, (c.requires.limited, split.0))

pub compiled_call-of_call-requires-clause-constant : goal.compiled_call-of_call-requires-clause-constant
compiled_call-of_call-requires-clause-constant t c =
    let split = split-args c.args.limit c.args.cell c.args.kind c.args.args.now c.split_at.result.0.now c.split_at.result.1.now (c.split_at.ensures.by_index.0)
    (sym c.arguments_refused.ensures ∙ c.in_default.is) (c.split_at.ensures.front_len ∙ c.arrays_of.ensures) c.requires.arguments in
    rw c.in_ok-others.ensures (literals-constant c.split_at.result.1.now split.1 c.args.cell)

pub compiled_call-returns : goal.compiled_call-returns
compiled_call-returns t c table book =
    let refused = sym c.arguments_refused.ensures ∙ c.in_default.is in
    let front = c.split_at.ensures.front_len ∙ c.arrays_of.ensures in
    let split = split-args c.args.limit c.args.cell c.args.kind c.args.args.now c.split_at.result.0.now c.split_at.result.1.now (c.split_at.ensures.by_index.0) refused front c.requires.arguments in
    shows-over c.args.limit c.args.cell c.args.kind c.args.args.now c.split_at.result.0.now c.split_at.result.1.now (c.split_at.ensures.by_index.0) refused front table book
    c.in_ok-parts.parts.items c.in_ok-others.others.items c.of_call.result (c.in_ok-parts.ensures.arrays table book) split.1 c.in_ok-others.ensures (c.of_call.ensures book)

pub compiled_call-returns-in_err-parts : goal.compiled_call-returns-in_err-parts
compiled_call-returns-in_err-parts t c table book =
    shows-told c.args.limit c.args.cell c.args.kind c.args.args.now c.split_at.result.0.now c.split_at.result.1.now (c.split_at.ensures.by_index.0)
    (sym c.arguments_refused.ensures ∙ c.in_default.is) (c.split_at.ensures.front_len ∙ c.arrays_of.ensures) table book
    c.from_residual.result c.in_err-parts.field-0.0 c.from_residual.ensures.1 (c.in_err-parts.ensures.arrays table book)

pub compile_all-returns-in_err-part-clause-arrays : goal.compile_all-returns-in_err-part-clause-arrays
compile_all-returns-in_err-part-clause-arrays t c table book =
    let within : c.loop-node.node-index < length c.args.nodes.now = search rules in
    let at : c.node-item.result ≡ get_or c.args.nodes.now c.loop-node.node-index c.node-item.result = search rules in
    broken-told (setting table book c.args.limit c.args.cell) c.args.nodes.now c.loop-node.node-index c.node-item.result within at
    c.loop-node.parts.items (c.loop-node.invariant.1 table book) _ c.from_residual.result c.in_err-part.field-0.0 c.from_residual.ensures.1 (c.in_err-part.ensures table book)

pub compile_all-loop-node-preserved : goal.compile_all-loop-node-preserved
compile_all-loop-node-preserved t c =
    let pushed = c.in_ok-push.ensures.items in
    let within : c.loop-node.node-index < length c.args.nodes.now = search rules in
    let at : c.node-item.result ≡ get_or c.args.nodes.now c.loop-node.node-index c.node-item.result = search rules in (
      grind (arith, pushed, c.loop-node.invariant.0),
      λ table book. rw pushed (grown (setting table book c.args.limit c.args.cell) c.args.nodes.now c.loop-node.node-index c.node-item.result within at
          c.loop-node.parts.items (c.loop-node.invariant.1 table book) c.in_ok-part.part (c.in_ok-part.ensures table book)),
    )

pub compile_all-returns-clause-arrays : goal.compile_all-returns-clause-arrays
compile_all-returns-clause-arrays t c table book =
    let past : length c.args.nodes.now ≤ c.loop-node.node-index = search rules in
    subst (λ nodes. each (array_in book c.args.cell) (map (λ node. found_of (setting table book c.args.limit c.args.cell) (tree_of node)) nodes) ≡ Ok (map (rows_in book) c.loop-node.parts.items))
    (take-whole c.args.nodes.now c.loop-node.node-index past) (c.loop-node.invariant.1 table book)
