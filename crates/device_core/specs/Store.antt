-- A room of fixed size that keeps the first bytes that come.
--
-- Store              the bytes kept, the size of the room, and whether a byte came past it and was dropped
-- empty_store size   no byte yet
-- stored s bytes     the store, after these bytes came
-- told s             all the bytes that came, unless one was dropped
use Rattle.std.specs.Prelude.{ℕ, ◌+◌, Bool, false, ◌||◌, nat_lt, if◌then◌else◌, List, [], ◌++◌, length, take, Option, None, Some}

pub record Store : Type 0 where
  pub kept : List ℕ
  pub size : ℕ
  pub overrun : Bool

abbrev pub empty_store : ℕ → Store
empty_store size = record { kept = []; size = size; overrun = false }

abbrev pub stored : Store → List ℕ → Store
stored s bytes = record s {
  kept = take s.size (s.kept ++ bytes);
  overrun = s.overrun || nat_lt s.size (length s.kept + length bytes);
}

abbrev pub told : Store → Option (List ℕ)
told s = if s.overrun then None else Some s.kept
