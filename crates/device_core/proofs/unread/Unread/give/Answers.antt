use Rattle.std.proofs.Common.{arith}
use Rattle.device_core.proofs.Stored.{give_splits}
use Rattle.device_core.proofs.unread.Unread.give.Goals as goal

pub returns-clause-given : goal.returns-clause-given
returns-clause-given c =
    give_splits _ c.self.inside.bytes.items c.deref.result.now _ _ c.self.inside.at _ c.self.view_is c.deref.ensures.value (omega arith) c.copy_from_slice.ensures.after
