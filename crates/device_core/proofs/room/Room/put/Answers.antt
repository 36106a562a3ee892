use Rattle.std.proofs.Common.{◌∙◌, ap, arith}
use Rattle.device_core.specs.Store.{stored}
use Rattle.device_core.proofs.Stored.{stored_past}
use Rattle.device_core.proofs.room.Room.put.Goals as goal

pub returns-then-count-bytes : goal.returns-then-count-bytes
returns-then-count-bytes c =
    let room = c.self.inside in
    let came = rw c.unwrap.ensures at c.extend_from_slice.ensures.items in
    stored_past room.kept.items c.args.bytes.now _ room.size c.len.result c.min-count.result room.overrun (omega (arith, room.kept.ok.0)) (omega arith) c.min-count.ensures c.if-count-bytes.true came
    ∙ ap (λ s. stored s c.args.bytes.now) c.self.view_is
