use Rattle.std.proofs.Common.{map}
use Rattle.serde_json.specs.View.{view}
use Rattle.value_json.specs.Values.{value_in}
use Rattle.value_json.specs.Traverse.{traverse}
use Rattle.value_json.proofs.Traversal.{Reached}
use Rattle.value_json.proofs.rows.read_row.Given as goal

abbrev pub invariant-loop-item : goal.invariant-loop-item
invariant-loop-item l = Reached value_in view l.item-items (traverse value_in (map view l.item-items)) l.row.items l.item-index
