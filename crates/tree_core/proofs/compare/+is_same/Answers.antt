use Rattle.std.proofs.Common.{◌∙◌, refl, sym, arith}
use Rattle.tree_core.proofs.Told.{same-all, same-at, same-length, same-nodes, same-on}
use Rattle.tree_core.proofs.compare.+is_same.Goals as goal

pub returns-then-count-part_count : goal.returns-then-count-part_count
returns-then-count-part_count t c = (
  λ h. cc,
  λ e. absurd (let lengths = same-length _ _ _ ((same-nodes _ _ _ _ _ c.view-view.ensures.tree c.view-other.ensures.tree).0 e).1 in omega (arith, lengths)),
)

pub returns-then-not-is_same : goal.returns-then-not-is_same
returns-then-not-is_same t c = (
  λ h. cc,
  λ e. sym c.if-not-is_same.true ∙ c.is_same.ensures.1
      (same-at _ _ _ _ _ _ c.part.ensures c.part-in-loop-index.ensures ((same-nodes _ _ _ _ _ c.view-view.ensures.tree c.view-other.ensures.tree).0 e).1),
)

pub loop-index-preserved : goal.loop-index-preserved
loop-index-preserved t c = same-on _ _ _ _ _ _ c.part.ensures c.part-in-loop-index.ensures (c.is_same.ensures.0 c.if-not-is_same.false) c.loop-index.invariant

pub returns : goal.returns
returns t c = (
  λ h. (same-nodes _ _ _ _ _ c.view-view.ensures.tree c.view-other.ensures.tree).1
      (c.is_same_here.ensures.0 c.if-not-is_same_here.false, same-all _ _ _ _ (omega arith) (omega arith) c.loop-index.invariant),
  λ e. refl,
)
