-- The rows so far have one length.
use Rattle.std.proofs.Common.{◌≡◌, ℕ, ◌<◌, List, length}
use Rattle.std.specs.List.{slice_index_or}
use Rattle.value_core.specs.declared.array.ArrayNode.{ArrayNode}
use Rattle.rectangle_core.proofs.grid.is_rectangle.Given as goal

abbrev pub invariant-loop-index : goal.invariant-loop-index
invariant-loop-index l = (k : ℕ) (d : List ArrayNode) → k < l.index → length (slice_index_or l.rows k d) ≡ l.columns
