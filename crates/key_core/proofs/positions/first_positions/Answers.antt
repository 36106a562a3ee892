use Rattle.std.proofs.Common.{◌≡◌, ◌<◌, ℕ, true, false, cond, not, List, [], length, get_or, take, sym, ap, ◌∙◌, append-nil, Bor}
use Rattle.std.proofs.lemmas.List.{get_or_default}
use Rattle.std.specs.Prelude.{Vec}
use Rattle.std.specs.declared.alloc.Global.{Global}
use Rattle.std.specs.HashSet.{contains_by}
use Rattle.key_core.specs.Row.{one_row, one_row-laws}
use Rattle.key_core.specs.Kept.{is_among, is_first}
use Rattle.key_core.specs.declared.key.CellKey.{CellKey}
use Rattle.key_core.proofs.Keeping.{seen-more, kept-more}
use Rattle.key_core.proofs.positions.first_positions.Goals as goal
use Rattle.key_core.proofs.positions.first_positions.Goals.{then-branch+in_ok-push, else-branch}

pub loop-index-preserved : goal.loop-index-preserved
loop-index-preserved c =
    let keys : List (List CellKey) = c.args.keys.now in
    let i : ℕ = c.loop-index.index in
    let key : List CellKey = c.index-keys-index.result in
    let inside : i < length keys = c.loop-index-test.true in
    let there : get_or keys i [] ≡ key = get_or_default keys i [] key inside ∙ sym c.index-keys-index.is in
    let borrowed : Bor (List CellKey) = record { ref_ptr = (0, 0); now = key } in
    let first : is_first keys i ≡ c.in_ok-insert.field-0 =
    ap (λ k. not (is_among k (take i keys))) there ∙ ap not (sym (c.loop-index.invariant.seen borrowed)) ∙ sym c.in_ok-insert.ensures.added in
    record {
      seen = λ q. seen-more (one_row q.now) keys i key (contains_by (λ other. one_row q.now other.now) c.loop-index.seen) _ inside (c.loop-index.invariant.seen q)
          (c.in_ok-insert.ensures.updates.0 q ∙ ap (λ b. cond b true (contains_by (λ other. one_row q.now other.now) c.loop-index.seen)) (one_row-laws.symm key q.now ∙ ap (one_row q.now) c.index-keys-index.is));
      kept = elim c.if-branch.branch [
        | then-branch+in_ok-push w ↦ ap (λ (v : Vec ℕ Global). v.items) w.kept-is ∙ w.in_ok-push.ensures.items ∙ kept-more (is_first keys) i true c.loop-index.kept.items (first ∙ w.if-branch.true) c.loop-index.invariant.kept
        | else-branch w ↦ ap (λ (v : Vec ℕ Global). v.items) w.kept-is ∙ sym (append-nil c.loop-index.kept.items) ∙ kept-more (is_first keys) i false c.loop-index.kept.items (first ∙ w.if-branch.false) c.loop-index.invariant.kept
      ];
    }
