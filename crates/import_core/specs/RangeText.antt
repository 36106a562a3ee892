-- Texts that end as a reference to a range does.
--   after_last_colon     what follows the last colon of a text; none where it has no colon
--   is_capital, is_digit  a letter from A to Z, a digit from 0 to 9
--   is_end               none or more capital letters, and then none or more digits
--   is_range_reference   a text with a colon, behind whose last one stands such an end
use Rattle.std.specs.Prelude.{ℕ, ◌==◌, nat_le, Bool, true, false, ◌&&◌, if◌then◌else◌, List, [], ◌∷◌, Option, Some, None}
use Rattle.std.specs.List.{list_all}
use Rattle.std.specs.Option.{option_map_or}

abbrev pub after_last_colon : List ℕ → Option (List ℕ)
after_last_colon [] = None
after_last_colon (byte ∷ bytes) = option_map_or Some (after_last_colon bytes) (if byte == 58 then Some bytes else None)

abbrev pub is_capital : ℕ → Bool
is_capital byte = nat_le 65 byte && nat_le byte 90

abbrev pub is_digit : ℕ → Bool
is_digit byte = nat_le 48 byte && nat_le byte 57

abbrev pub is_end : List ℕ → Bool
is_end [] = true
is_end (byte ∷ bytes) = if is_capital byte then is_end bytes else list_all is_digit (byte ∷ bytes)

abbrev pub is_range_reference : List ℕ → Bool
is_range_reference text = option_map_or is_end (after_last_colon text) false
