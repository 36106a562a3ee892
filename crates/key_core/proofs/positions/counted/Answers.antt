use Rattle.std.proofs.Common.{ℕ, List, take, ap, ◌∙◌, arith, Bor}
use Rattle.std.proofs.lemmas.List.{length-take}
use Rattle.std.proofs.lemmas.List.Sums.{count_by-le-length}
use Rattle.std.specs.List.{count_by}
use Rattle.std.specs.HashMap.{get_by}
use Rattle.std.specs.Option.{unwrap_or}
use Rattle.own_items.specs.Sameness.{one_value}
use Rattle.key_core.specs.Row.{coded_row, one_row, one_row-laws}
use Rattle.key_core.specs.declared.key.CellKey.{CellKey}
use Rattle.key_core.proofs.Keeping.{counted-more}
use Rattle.key_core.proofs.positions.counted.Goals as goal

pub overflow_add-before : goal.overflow_add-before
overflow_add-before c =
    let keys : List (List CellKey) = c.args.keys.now in
    let i : ℕ = c.loop-index.index in
    let key : List CellKey = c.index-keys-index.result in
    let borrowed : Bor (List CellKey) = record { ref_ptr = (0, 0); now = key } in
    omega (arith, c.times-before.ensures, c.loop-index.invariant borrowed, count_by-le-length (one_row key) (take i keys), length-take i keys, c.loop-index-test.true)

pub loop-index-preserved : goal.loop-index-preserved
loop-index-preserved c =
    let keys : List (List CellKey) = c.args.keys.now in
    let i : ℕ = c.loop-index.index in
    let key : List CellKey = c.index-keys-index.result in
    let borrowed : Bor (List CellKey) = record { ref_ptr = (0, 0); now = key } in
    λ q. let there = one_row-laws.symm key q.now ∙ ap (one_row q.now) c.index-keys-index.is in
    ap (λ found. unwrap_or found 0) (c.in_ok-insert.ensures.updates.0 q)
    ∙ counted-more (one_row q.now) keys i key (one_row key q.now) (get_by (λ other. one_row q.now other.now) c.loop-index.counts) c.times-before.result c.loop-index-test.true there
    (c.loop-index.invariant q)
    (λ same. c.times-before.ensures ∙ c.loop-index.invariant borrowed ∙ ap (λ k. count_by (one_row k) (take i keys)) (one_value coded_row key q.now same))
