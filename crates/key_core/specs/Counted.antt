-- How often keys come.
--   times      how often a key was counted in a map
--   IsCounted  a map has each key as often as it stands in a list
use Rattle.std.specs.Prelude.{◌≡◌, ℕ, List}
use Rattle.std.specs.List.{count_by}
use Rattle.std.specs.Option.{unwrap_or}
use Rattle.std.specs.HashMap.{HashMap, get_by}
use denote.Ref.{Bor}
use Rattle.key_core.specs.Row.{one_row}
use Rattle.key_core.specs.declared.key.CellKey.{CellKey}

abbrev pub times : {S : Type 0} → HashMap (Bor (List CellKey)) ℕ S → List CellKey → ℕ
times counts key = unwrap_or (get_by (λ other. one_row key other.now) counts) 0

abbrev pub IsCounted : {S : Type 0} → HashMap (Bor (List CellKey)) ℕ S → List (List CellKey) → Type 0
IsCounted counts keys = (key : Bor (List CellKey)) → times counts key.now ≡ count_by (one_row key.now) keys
