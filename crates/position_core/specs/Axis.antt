-- Along one axis: so many lines, which are rows or columns.
--   taken, taken_from            TAKE: how many are kept, and where they begin; the first ones, or the last ones of a negative count
--   taken_if, taken_from_if      the same, where the count may be left out: all are kept
--   dropped, dropped_from        DROP: how many are left, and where they begin; the first ones go, or the last ones of a negative count
--   dropped_if, dropped_from_if  the same, where the count may be left out: all are left
--   is_choice, chosen            CHOOSECOLS and CHOOSEROWS: whether a number names one of them, and which, from 0; the first has number 1, the last -1
use Rattle.std.specs.Prelude.{ℕ, ℤ, pos, ◌-◌, min, Bool, not, ◌&&◌, if◌then◌else◌, nat_le, nat_eq, int_lt, int_le, unsigned_abs, Option}
use Rattle.std.specs.Option.{option_map_or}

abbrev pub taken : ℤ → ℕ → ℕ
taken count total = min (unsigned_abs count) total

abbrev pub taken_from : ℤ → ℕ → ℕ
taken_from count total = if int_lt (pos 0) count then 0 else total - taken count total

abbrev pub taken_if : Option ℤ → ℕ → ℕ
taken_if count total = option_map_or (λ c. taken c total) count total

abbrev pub taken_from_if : Option ℤ → ℕ → ℕ
taken_from_if count total = option_map_or (λ c. taken_from c total) count 0

abbrev pub dropped : ℤ → ℕ → ℕ
dropped count total = total - min (unsigned_abs count) total

abbrev pub dropped_from : ℤ → ℕ → ℕ
dropped_from count total = if int_le (pos 0) count then min (unsigned_abs count) total else 0

abbrev pub dropped_if : Option ℤ → ℕ → ℕ
dropped_if count total = option_map_or (λ c. dropped c total) count total

abbrev pub dropped_from_if : Option ℤ → ℕ → ℕ
dropped_from_if count total = option_map_or (λ c. dropped_from c total) count 0

abbrev pub is_choice : ℤ → ℕ → Bool
is_choice number total = not (nat_eq (unsigned_abs number) 0) && nat_le (unsigned_abs number) total

abbrev pub chosen : ℤ → ℕ → ℕ
chosen number total = if int_lt (pos 0) number then unsigned_abs number - 1 else total - unsigned_abs number
