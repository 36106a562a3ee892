use Rattle.std.proofs.Common.{◌≡◌, ◌-◌, ◌≤◌, min, length, take, vec_len, arith}
use Rattle.std.proofs.lemmas.List.{length-take}
use Rattle.device_core.proofs.Flows.{ConsumesAtMost-append}
use Rattle.device_core.proofs.read.read_to_end.Goals as goal

pub returns-in_err-extend_from_slice-clause-memory :
    goal.returns-in_err-extend_from_slice-clause-memory
returns-in_err-extend_from_slice-clause-memory g c =
    let count = c.in_ok-count.count in
    let bytes = c.loop-piece.bytes in
    let into = c.take.new.into in
    let given : count ≤ length into = c.in_ok-count.ensures.bound in
    let whole : length into ≡ length (take c.min-room.result c.loop-piece.piece) = c.take.auto.into in
    let room : c.min-room.result ≡ min 4096 (16777217 - c.len-in-loop-piece.result) = c.min-room.ensures in
    let held : c.len-in-loop-piece.result ≡ vec_len bytes = c.len-in-loop-piece.ensures in
    let before : vec_len bytes ≤ 16777217 = c.loop-piece.invariant.within in
    λ _. ConsumesAtMost-append _ _ _ bytes.items (take count into) _ c.loop-piece.invariant.consumed c.in_ok-count.ensures.given (omega (arith, length-take count into, length-take c.min-room.result c.loop-piece.piece, bytes.ok.0))
