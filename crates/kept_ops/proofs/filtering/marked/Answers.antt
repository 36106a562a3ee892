use Rattle.std.proofs.Common.{◌≡◌, ◌<◌, ℕ, true, false, List, length, sym, ap, ◌∙◌, append-nil}
use Rattle.std.proofs.lemmas.List.{get_or_default}
use Rattle.std.specs.Prelude.{Vec}
use Rattle.std.specs.declared.alloc.Global.{Global}
use Rattle.value_core.specs.declared.array.ArrayNode.{ArrayNode}
use Rattle.value_core.specs.declared.array.ArrayNode.TheVariants.{Empty}
use Rattle.key_core.proofs.Keeping.{kept-more}
use Rattle.kept_ops.specs.Filter.{is_marked, keeps}
use Rattle.kept_ops.proofs.filtering.marked.Goals as goal
use Rattle.kept_ops.proofs.filtering.marked.Goals.{then-keeps+in_ok-push, else-keeps}

pub loop-index-preserved : goal.loop-index-preserved
loop-index-preserved c =
    let mask : List ArrayNode = c.args.mask.now in
    let i : ℕ = c.loop-index.index in
    let inside : i < length mask = c.loop-index-test.true in
    let is : is_marked mask i ≡ c.keeps.result =
    ap keeps (get_or_default mask i Empty c.index-mask-index.result inside ∙ sym c.index-mask-index.is) ∙ sym c.keeps.ensures in
    elim c.if-keeps.branch [
      | then-keeps+in_ok-push w ↦ ap (λ (v : Vec ℕ Global). v.items) w.kept-is ∙ w.in_ok-push.ensures.items
          ∙ kept-more (is_marked mask) i true c.loop-index.kept.items (is ∙ w.if-keeps.true) c.loop-index.invariant
      | else-keeps w ↦ ap (λ (v : Vec ℕ Global). v.items) w.kept-is ∙ sym (append-nil c.loop-index.kept.items)
          ∙ kept-more (is_marked mask) i false c.loop-index.kept.items (is ∙ w.if-keeps.false) c.loop-index.invariant
    ]
