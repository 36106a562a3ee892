use Rattle.std.proofs.Common.{◌≡◌, ◌+◌, ◌-◌, ◌≤◌, length, vec_len}
use Rattle.device_core.specs.Flow.{Consumes}
use Rattle.device_core.specs.declared.read.TheConstants.{LIMIT, PIECE}
use Rattle.device_core.proofs.read.read_to_end.Given as goal

abbrev pub invariant-loop-piece : goal.invariant-loop-piece
invariant-loop-piece g l = record {
  room : length l.piece ≡ PIECE;
  within : vec_len l.bytes ≤ LIMIT + 1;
  consumed : Consumes (g.S.Source.unread l.initial.source) (g.S.Source.unread l.source) l.bytes.items;
  no_fault : g.S.Source.faults l.source ≡ g.S.Source.faults l.initial.source;
}

abbrev pub decreases-loop-piece : goal.decreases-loop-piece
decreases-loop-piece g l = LIMIT + 1 - vec_len l.bytes
