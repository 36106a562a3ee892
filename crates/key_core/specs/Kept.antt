-- The positions that are kept where each key is to come once.
--   key_at           the key at a position, from 0
--   is_among         a key stands among some
--   is_first         no earlier position has the key of this one
--   is_only          no other position has it
--   first_positions, only_positions, kept_positions   the positions of which that holds, in order
use Rattle.std.specs.Prelude.{ℕ, ◌+◌, Bool, not, ◌&&◌, if◌then◌else◌, List, [], length, take, drop, slice_index_or}
use Rattle.std.specs.List.{filter, list_any, range_with_len}
use Rattle.key_core.specs.Row.{one_row}
use Rattle.key_core.specs.declared.key.CellKey.{CellKey}

abbrev pub key_at : List (List CellKey) → ℕ → List CellKey
key_at keys i = slice_index_or keys i []

abbrev pub is_among : List CellKey → List (List CellKey) → Bool
is_among key keys = list_any (one_row key) keys

abbrev pub is_first : List (List CellKey) → ℕ → Bool
is_first keys i = not (is_among (key_at keys i) (take i keys))

abbrev pub is_only : List (List CellKey) → ℕ → Bool
is_only keys i = is_first keys i && not (is_among (key_at keys i) (drop (i + 1) keys))

abbrev pub first_positions : List (List CellKey) → List ℕ
first_positions keys = filter (is_first keys) (range_with_len 0 (length keys))

abbrev pub only_positions : List (List CellKey) → List ℕ
only_positions keys = filter (is_only keys) (range_with_len 0 (length keys))

abbrev pub kept_positions : Bool → List (List CellKey) → List ℕ
kept_positions exactly_once keys = if exactly_once then only_positions keys else first_positions keys
