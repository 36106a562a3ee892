use Rattle.std.proofs.Common.{true, false, List, [], ◌∷◌, map, sym, ap, ◌∙◌, append-nil, Bor}
use Rattle.std.proofs.lemmas.List.{map-append}
use Rattle.std.specs.Prelude.{Vec}
use Rattle.std.specs.declared.alloc.Global.{Global}
use Rattle.value_core.specs.declared.array.ArrayNode.{ArrayNode}
use Rattle.kept_ops.specs.Flatten.{stays}
use Rattle.kept_ops.specs.Lines.{line_element}
use Rattle.kept_ops.proofs.Listed.{staying-more}
use Rattle.kept_ops.proofs.flattening.add_staying.Goals as goal
use Rattle.kept_ops.proofs.flattening.add_staying.Goals.{then-stays+in_ok-push, else-stays}

pub loop-place-preserved : goal.loop-place-preserved
loop-place-preserved c =
    let shown : List (Bor ArrayNode) → List ArrayNode = λ es. map (λ e. e.now) es in
    let f = line_element c.args.lines.now.by_column c.args.lines.now.grid.now c.args.line in
    let before : List (Bor ArrayNode) = c.loop-place.kept.items in
    elim c.if-stays.branch [
      | then-stays+in_ok-push w ↦ staying-more (stays c.args.ignore) f c.loop-place.place (shown c.args.kept.now.items) (shown before) _ true c.get-element.result.now
          c.loop-place.invariant (sym w.if-stays.true ∙ c.stays.ensures) c.get-element.ensures
          (ap (λ (v : Vec (Bor ArrayNode) Global). shown v.items) w.kept-is ∙ ap shown w.in_ok-push.ensures.items ∙ map-append (λ (e : Bor ArrayNode). e.now) before (c.get-element.result ∷ []))
      | else-stays w ↦ staying-more (stays c.args.ignore) f c.loop-place.place (shown c.args.kept.now.items) (shown before) _ false c.get-element.result.now
          c.loop-place.invariant (sym w.if-stays.false ∙ c.stays.ensures) c.get-element.ensures
          (ap (λ (v : Vec (Bor ArrayNode) Global). shown v.items) w.kept-is ∙ sym (append-nil (shown before)))
    ]
