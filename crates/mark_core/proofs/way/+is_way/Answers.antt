use Rattle.std.proofs.Common.{◌+◌, drop, get_or, arith}
use Rattle.mark_core.proofs.Elements.{drop-next}
use Rattle.mark_core.proofs.Ways.{way-shut}
use Rattle.mark_core.proofs.way.+is_way.Goals as goal

pub returns-then-not-is_entered : goal.returns-then-not-is_entered
returns-then-not-is_entered g t c =
    way-shut c.args.rule (g.K.Kinds.table c.args.kinds.now) c.args.wanted c.args.mark.now (drop c.args.at c.args.path.now) (get_or c.args.path.now c.args.at 0) (drop (c.args.at + 1) c.args.path.now)
    c.is_entered.result (drop-next c.args.path.now c.args.at 0 (omega arith)) c.is_entered.ensures c.if-not-is_entered.true
