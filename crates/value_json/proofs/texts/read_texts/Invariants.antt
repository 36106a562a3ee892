use Rattle.std.proofs.Common.{map}
use Rattle.serde_json.specs.Find.{as_str}
use Rattle.serde_json.specs.View.{view}
use Rattle.value_json.specs.Traverse.{traverse}
use Rattle.value_json.proofs.Traversal.{Reached}
use Rattle.value_json.proofs.texts.read_texts.Given as goal

abbrev pub invariant-loop-item : goal.invariant-loop-item
invariant-loop-item l = Reached as_str view l.item-items (traverse as_str (map view l.item-items)) l.texts l.item-index
