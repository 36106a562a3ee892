-- A line in the room of a caller in C.
--   Handed   the length of the line is told; the line stands at the front of the room, the rest of which stays, and the result is
--            its code; or the line is longer than the room, which stays as it was, and the result is 1
use Rattle.std.specs.Prelude.{◌≡◌, ℕ, ◌<◌, ◌≤◌, ◌⊎◌, List, ◌++◌, length, drop}

pub record Handed (code : ℕ) (line old new : List ℕ) (told result : ℕ) : Type 0 where
  pub told_is : told ≡ length line
  pub room_is : ((length line ≤ length old) × (new ≡ line ++ drop (length line) old) × (result ≡ code))
      ⊎ ((length old < length line) × (new ≡ old) × (result ≡ 1))
