-- One more member, and what it says is put in.
use Rattle.std.specs.Map.Iter.{deref_pair}
use Rattle.std.proofs.lemmas.Map.Iter.{rest_more}
use Rattle.unit_json.proofs.Filling.{filled_more}
use Rattle.unit_json.proofs.formats.filled.Goals as goal

pub loop-key-preserved : goal.loop-key-preserved
loop-key-preserved c =
    filled_more _ _ _ (c.in-Some.key.now, c.in-Some.value.now) _ _ tt
    (rest_more deref_pair _ _ _ (c.in-Some.key, c.in-Some.value) c.in-Some.is c.next.ensures.steps)
    c.loop-key.invariant (rw c.as_str.ensures.value at c.in_ok-add_format.ensures)
