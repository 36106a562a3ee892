use Rattle.std.proofs.Common.{◌≡◌, ◌<◌, ℕ, true, false, List, [], length, get_or, refl, sym, ap, ◌∙◌, append-nil, Bor}
use Rattle.std.proofs.lemmas.List.{get_or_default}
use Rattle.std.proofs.lemmas.Bool.{eq-eqb, ne_eqb}
use Rattle.std.specs.List.{count_by}
use Rattle.std.specs.Prelude.{Vec}
use Rattle.std.specs.declared.alloc.Global.{Global}
use lib.Dec.{eqb}
use Rattle.own_items.specs.Sameness.{same_since}
use Rattle.key_core.specs.Row.{coded_row, one_row}
use Rattle.key_core.specs.Kept.{is_only}
use Rattle.key_core.specs.declared.key.CellKey.{CellKey}
use Rattle.key_core.proofs.Keeping.{once-is, kept-more}
use Rattle.key_core.proofs.positions.only_positions.Goals as goal
use Rattle.key_core.proofs.positions.only_positions.Goals.{then-times-eq1+in_ok-push, else-times-eq1}

pub loop-index-preserved : goal.loop-index-preserved
loop-index-preserved c =
    let keys : List (List CellKey) = c.args.keys.now in
    let i : ℕ = c.loop-index.index in
    let key : List CellKey = c.index-keys-index.result in
    let inside : i < length keys = c.loop-index-test.true in
    let there : get_or keys i [] ≡ key = get_or_default keys i [] key inside ∙ sym c.index-keys-index.is in
    let borrowed : Bor (List CellKey) = record { ref_ptr = (0, 0); now = key } in
    let only : is_only keys i ≡ eqb c.times.result 1 =
    sym (once-is (one_row (get_or keys i [])) keys i [] inside (same_since coded_row (get_or keys i []) (get_or keys i []) refl))
    ∙ ap (λ n. eqb n 1) (ap (λ k. count_by (one_row k) keys) there ∙ sym (c.in_ok-counts.ensures borrowed) ∙ sym c.times.ensures) in
    elim c.if-times-eq1.branch [
      | then-times-eq1+in_ok-push w ↦ ap (λ (v : Vec ℕ Global). v.items) w.kept-is ∙ w.in_ok-push.ensures.items
          ∙ kept-more (is_only keys) i true c.loop-index.kept.items (only ∙ eq-eqb c.times.result 1 w.if-times-eq1.true) c.loop-index.invariant
      | else-times-eq1 w ↦ ap (λ (v : Vec ℕ Global). v.items) w.kept-is ∙ sym (append-nil c.loop-index.kept.items)
          ∙ kept-more (is_only keys) i false c.loop-index.kept.items (only ∙ ne_eqb c.times.result 1 w.if-times-eq1.false) c.loop-index.invariant
    ]
