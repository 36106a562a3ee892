use Rattle.std.proofs.Common.{map}
use Rattle.serde_json.specs.View.{view}
use Rattle.value_json.specs.Values.{row_in}
use Rattle.value_json.specs.Traverse.{traverse}
use Rattle.value_json.proofs.Traversal.{Reached}
use Rattle.value_json.proofs.rows.read_rows.Given as goal

abbrev pub invariant-loop-item : goal.invariant-loop-item
invariant-loop-item l = Reached row_in view l.item-items (traverse row_in (map view l.item-items)) l.rows l.item-index
