use Rattle.std.proofs.Common.{◌≡◌, refl, ◌∙◌, ◌++◌, [], ◌∷◌, ap, length, sym, map, arith, rules}
use Rattle.mark_places.proofs.Listed.{first-none, first-one, listed-end, listed-step, shortened}
use Rattle.mark_places.proofs.listing.+list.Goals.{then-is_candidate+in_ok-place+in_ok-push, else-is_candidate}
use Rattle.mark_places.proofs.listing.+list.Goals as goal

-- src/listing.rt:48:5
pub loop-index-init : goal.loop-index-init
loop-index-init g t c = (
  refl,
  elim c.if-is_candidate.branch [
    | then-is_candidate+in_ok-place+in_ok-push w ↦ ap (λ v. v.items) w.places-is ∙ w.in_ok-push.ensures.items
        ∙ first-one c.args.rule (g.K.Kinds.table c.args.kinds.now) c.args.mark.now c.args.wanted c.args.path.now.items _ c.args.places.now.items (sym c.is_candidate.ensures ∙ w.if-is_candidate.true) (w.in_ok-place.ensures ∙ w.as_slice.ensures.value)
    | else-is_candidate w ↦ ap (λ v. v.items) w.places-is
        ∙ first-none c.args.rule (g.K.Kinds.table c.args.kinds.now) c.args.mark.now c.args.wanted c.args.path.now.items c.args.places.now.items (sym c.is_candidate.ensures ∙ w.if-is_candidate.false)
  ],
)

-- src/listing.rt:48:5
pub loop-index-preserved : goal.loop-index-preserved
loop-index-preserved g t c =
    let table = g.K.Kinds.table c.args.kinds.now in
    let path = c.args.path.now.items in
    let longer = c.in_ok-push-2.ensures.items ∙ ap (λ p. p ++ c.loop-index.index ∷ []) c.loop-index.invariant.0 in (
      shortened c.args.rule table c.args.mark.now c.args.wanted path _ _ c.loop-index.index _ (c.in_ok-list.ensures.kept ∙ longer)
          (let deep : c.len-depth.result ≡ length path = search rules in deep) c.truncate.ensures.items,
      listed-step c.args.rule table c.args.mark.now c.args.wanted c.as_slice-part-items.result.now c.len.result c.loop-index.index c.part-item.result path
          c.push-in-loop-index.new.self.items c.args.places.now.items c.loop-index.places.items c.list.new.places.items c.may_want-next.result
          c.as_slice-part-items.ensures c.len.ensures c.loop-index-test.true c.part-item.is c.loop-index.invariant.1 longer c.may_want-next.ensures c.in_ok-list.ensures.listed,
    )

-- src/listing.rt:31:1
pub returns-clause-listed : goal.returns-clause-listed
returns-clause-listed g t c =
    let table = g.K.Kinds.table c.args.kinds.now in
    c.loop-index.invariant.1 ∙ ap (λ ps. c.args.places.now.items ++ map (λ place. c.args.path.now.items ++ place) ps)
    (listed-end c.args.rule table c.args.mark.now c.args.wanted c.as_slice-part-items.result.now c.loop-index.index c.as_slice-part-items.ensures (omega (arith, c.loop-index-test.false)))

-- src/listing.rt:31:1
pub returns-clause-kept : goal.returns-clause-kept
returns-clause-kept g t c = c.loop-index.invariant.0
