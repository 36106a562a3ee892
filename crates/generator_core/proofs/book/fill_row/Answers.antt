use Rattle.std.proofs.Common.{◌+◌, ap}
use Rattle.generator_core.proofs.Rows.{row-filled-with}
use Rattle.generator_core.proofs.book.fill_row.Goals as goal

pub returns : goal.returns
returns c is =
    row-filled-with c.args.seed c.args.filled _ _ _ _ _ _ _ _ (ap (λ n. n + 1) c.from-row.ensures) c.amount_element.ensures c.is_kept.ensures c.in_ok-item.ensures
    c.in_ok-set.ensures c.in_ok-set-2.ensures c.in_ok-set-3.ensures is
