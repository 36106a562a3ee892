-- The set has the keys so far, and kept are the first positions so far.
use Rattle.std.proofs.Common.{◌≡◌, List, take}
use Rattle.std.specs.HashSet.{contains_by}
use Rattle.std.specs.List.{filter, range_with_len}
use denote.Ref.{Bor}
use Rattle.key_core.specs.Row.{one_row}
use Rattle.key_core.specs.Kept.{is_among, is_first}
use Rattle.key_core.specs.declared.key.CellKey.{CellKey}
use Rattle.key_core.proofs.positions.first_positions.Given as goal

abbrev pub invariant-loop-index : goal.invariant-loop-index
invariant-loop-index l = record {
  seen : (key : Bor (List CellKey)) → contains_by (λ other. one_row key.now other.now) l.seen ≡ is_among key.now (take l.index l.keys);
  kept : l.kept.items ≡ filter (is_first l.keys) (range_with_len 0 l.index);
}
