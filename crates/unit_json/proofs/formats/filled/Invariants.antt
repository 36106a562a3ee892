-- The formats so far have what the members so far say.
use Rattle.unit_json.proofs.Filling.{Filled}
use Rattle.unit_json.proofs.formats.filled.Given as goal

abbrev pub invariant-loop-key : goal.invariant-loop-key
invariant-loop-key l = Filled l.fn.members.entries l.key-iterator l.formats
