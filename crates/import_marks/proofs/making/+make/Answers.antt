use Rattle.std.proofs.Common.{◌∙◌, sym, ap, ap₂, map}
use Rattle.tree_core.specs.Formula.{tree_of}
use Rattle.tree_core.specs.Tree.{forest}
use Rattle.tree_core.proofs.Parts.{read-at}
use Rattle.shape_core.specs.Shape.{call_shape, shown_all}
use Rattle.import_core.specs.After.{after}
use Rattle.import_core.proofs.Arguments.{each-more, wants-of}
use Rattle.import_core.proofs.Decides.{twice-next}
use Rattle.export_marks.specs.Trial.{settles}
use Rattle.import_marks.specs.Made.{between_made, made_of}
use Rattle.import_marks.proofs.Classes.{made-between, made-call, parts-on, settle-on}
use Rattle.import_marks.proofs.making.+make.Goals as goal

pub make_arguments-loop-index-preserved : goal.make_arguments-loop-index-preserved
make_arguments-loop-index-preserved g t c =
    let table = g.K.Kinds.table c.args.kinds.now in
    let items = c.as_slice-arg-items.result.now in
    let i = c.loop-index.index in
    let arg = c.arg-item.result in
    let at = read-at items i arg c.loop-index-test.true c.arg-item.is in
    let wants = wants-of c.args.rule table c.args.kind c.args.args.now items c.len-count.result i arg c.as_slice-arg-items.ensures c.len-count.ensures at in
    record {
      parts = parts-on c.args.rule table items i arg _ _ _ at c.loop-index.invariant.parts c.in_ok-found.ensures.made c.in_ok-add-2.ensures;
      imported = c.in_ok-add.ensures.done ∙ each-more _ items i arg _ _ c.loop-index-test.true c.arg-item.is c.loop-index.invariant.imported
          (c.in_ok-found.ensures.imported ∙ ap (λ one. after c.args.rule table one (tree_of arg)) wants);
      settled = settle-on c.args.rule table _ items i arg _ _ _ at c.loop-index.invariant.settled (c.in_ok-found.ensures.settled ∙ ap (λ one. settles c.args.rule table one (tree_of arg)) wants) c.both-settled.ensures;
      counted = twice-next items i arg at _ _ _ c.in_ok-found.ensures.counted c.loop-index.invariant.counted;
    }

pub make_call-returns-clause-value : goal.make_call-returns-clause-value
make_call-returns-clause-value g t c =
    let table = g.K.Kinds.table c.args.kinds.now in
    let shows = shown_all (forest (map tree_of c.args.args.now)) in
    made-call c.args.rule table c.args.kind c.args.args.now _ _ _ _ _ _ c.in_ok-found.ensures.parts c.in_ok-found.ensures.imported
    (c.call_shape-given.ensures.value ∙ ap (call_shape table c.args.kind shows) c.as_slice.ensures)
    (c.call_shape-imported.ensures.value ∙ ap (call_shape table c.args.kind shows) c.as_slice-2.ensures)
    c.is_range_like_call-like.ensures c.in_ok-found.ensures.settled _ c.call.ensures

pub make-returns-in_ok-found-in-Binary-clause-value : goal.make-returns-in_ok-found-in-Binary-clause-value
make-returns-in_ok-found-in-Binary-clause-value g t c =
    let table = g.K.Kinds.table c.args.kinds.now in
    c.in_ok-found-in-Binary.ensures ∙ ap₂ between_made c.in_ok-left-in-Binary.ensures.value c.in_ok-right-in-Binary.ensures.value
    ∙ sym (made-between c.args.rule table c.in-Binary.operator (tree_of c.in-Binary.left.now) (tree_of c.in-Binary.right.now))
    ∙ sym (ap (made_of c.args.rule table) c.in-Binary.ensures.tree)
