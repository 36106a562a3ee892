use Rattle.std.proofs.Common.{◌≡◌, ◌∙◌, ap, length, rules}
use Rattle.tree_core.specs.Formula.{tree_of}
use Rattle.tree_core.specs.Tree.{forest}
use Rattle.tree_core.proofs.Parts.{read-at}
use Rattle.shape_core.specs.Shape.{shapes}
use Rattle.shape_core.proofs.AllShapes.{shapes-on}
use Rattle.import_core.specs.After.{after, wants_one}
use Rattle.import_core.proofs.Arguments.{each-more, wants-of}
use Rattle.import_core.proofs.Builds.{arguments-next}
use Rattle.import_core.proofs.Decides.{call-decided, call-shapes, twice-next}
use Rattle.import_core.proofs.decide.+decide.Goals as goal

pub decide_arguments-loop-index-preserved : goal.decide_arguments-loop-index-preserved
decide_arguments-loop-index-preserved g t c =
    let table = g.K.Kinds.table c.args.kinds.now in
    let items = c.as_slice-arg-items.result.now in
    let i = c.loop-index.index in
    let arg = c.arg-item.result in
    let at = read-at items i arg c.loop-index-test.true c.arg-item.is in
    let wants = wants-of c.args.rule table c.args.kind c.args.args.now items c.len-count.result i arg c.as_slice-arg-items.ensures c.len-count.ensures at in
    record {
      given = shapes-on table items i arg at _ _ _ c.in_ok-push.ensures.items c.loop-index.invariant.given c.in_ok-found.ensures.given;
      imported = c.in_ok-push-2.ensures.items ∙ each-more _ items i arg _ _ c.loop-index-test.true c.arg-item.is c.loop-index.invariant.imported
          (c.in_ok-found.ensures.imported ∙ ap (λ one. after c.args.rule table one (tree_of arg)) wants);
      decided = arguments-next c.args.rule table _ items i arg at _ _ _ _ c.in_ok-found.ensures.decided c.loop-index.invariant.decided wants;
      counted = twice-next items i arg at _ _ _ c.in_ok-found.ensures.counted c.loop-index.invariant.counted;
    }

pub decide_call-returns-clause-value : goal.decide_call-returns-clause-value
decide_call-returns-clause-value g t c =
    call-shapes c.args.rule (g.K.Kinds.table c.args.kinds.now) c.args.kind c.args.args.now _ _ _ _
    (c.as_slice.ensures.value ∙ c.in_ok-shapes.ensures.given) (c.as_slice-2.ensures.value ∙ c.in_ok-shapes.ensures.imported) c.call_shape-given.ensures.value c.call_shape-imported.ensures.value
    _ _ c.is_range_like_call-like.ensures c.of.ensures

pub decide_call-returns-clause-decided : goal.decide_call-returns-clause-decided
decide_call-returns-clause-decided g t c =
    call-decided c.args.rule (g.K.Kinds.table c.args.kinds.now) c.args.kind c.args.args.now _ _ _ _
    (c.as_slice.ensures.value ∙ c.in_ok-shapes.ensures.given) (c.as_slice-2.ensures.value ∙ c.in_ok-shapes.ensures.imported) c.call_shape-given.ensures.value c.call_shape-imported.ensures.value
    _ _ _ _ _ _ c.is_range_like_call-like.ensures (let start : c.len-at.result ≡ length c.args.decided.now.items = search rules in start) c.in_ok-push.ensures.items c.in_ok-shapes.ensures.decided c.put_at.ensures
