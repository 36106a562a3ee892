use Rattle.std.proofs.Common.{◌≡◌, ◌-◌, ◌≤◌, [], length, take}
use Rattle.device_core.specs.Flow.{Adds}
use Rattle.device_core.proofs.write.write_all.Given as goal

abbrev pub invariant-loop-at : goal.invariant-loop-at
invariant-loop-at g l = record {
  within : l.at ≤ length l.text;
  added : Adds (g.W.Sink.written l.initial.sink) (g.W.Sink.written l.sink) (take l.at l.text);
  untouched : l.text ≡ [] → l.sink ≡ l.initial.sink;
  no_fault : g.W.Sink.faults l.sink ≡ g.W.Sink.faults l.initial.sink;
}

abbrev pub decreases-loop-at : goal.decreases-loop-at
decreases-loop-at g l = length l.text - l.at
