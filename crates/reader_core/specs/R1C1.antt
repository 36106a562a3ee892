-- References by the numbers of rows and columns.
--   signed_digits   one to seven digits, behind a `-` where one stands first
--   line_of         a row or a column beside the cell's own: that one where nothing stands there; the one of one to seven digits; with signed
--                   digits in brackets the own one and so many more
--   r1c1_spot       `R` and a row, `C` and a column, the two letters in either case; a cell of the sheet
--   r1c1_ends       one reference, or two with `:` between them
use Rattle.std.specs.Prelude.{ℕ, ◌==◌, nat_lt, ℤ, pos, neg_ℤ, ◌+ℤ◌, int_le, Bool, ◌&&◌, if◌then◌else◌, Option, Some, None, option_and_then, List, [], ◌∷◌, length, take, slice_index}
use Rattle.std.specs.Char.{to_ascii_uppercase}
use Rattle.std.specs.List.{after_first, before_first, position_or_len}
use Rattle.address_core.specs.Line.{few_digits}
use Rattle.reader_core.specs.declared.spot.Spot.{Spot}
use Rattle.reader_core.specs.declared.spot.Ends.{Ends}
use Rattle.reader_core.specs.Spot.{ends_at, has_colon, is_colon, positive}

abbrev pub negative : Option ℕ → Option ℤ
negative (Some n) = Some (neg_ℤ (pos n))
negative None = None

abbrev pub signed_digits : List ℕ → Option ℤ
signed_digits [] = None
signed_digits (c ∷ text) = if c == 45 then negative (few_digits text) else positive (few_digits (c ∷ text))

-- what stands in brackets, behind the first one
abbrev pub in_brackets : List ℕ → Option (List ℕ)
in_brackets [] = None
in_brackets (c ∷ text) = if slice_index (c ∷ text) (length text) == 93 then Some (take (length text) (c ∷ text)) else None

abbrev pub moved : ℤ → Option ℤ → Option ℤ
moved own (Some n) = Some (own +ℤ n)
moved own None = None

abbrev pub line_of : ℤ → List ℕ → Option ℤ
line_of own [] = Some own
line_of own (c ∷ text) = if c == 91 then moved own (option_and_then signed_digits (in_brackets text)) else positive (few_digits (c ∷ text))

abbrev pub on_axis : ℤ → ℤ → Option ℤ
on_axis last line = if int_le (pos 1) line && int_le line last then Some line else None

abbrev pub spot_at : Option ℤ → Option ℤ → Option Spot
spot_at (Some row) (Some column) = Some (record { row = row; column = column })
spot_at (Some row) None = None
spot_at None column = None

abbrev pub is_c : ℕ → Bool
is_c c = to_ascii_uppercase c == 67

-- behind the `R`
abbrev pub row_and_column : ℤ → ℤ → List ℕ → Option Spot
row_and_column row column text =
    if nat_lt (position_or_len is_c text) (length text)
    then spot_at (option_and_then (on_axis (pos 1048576)) (line_of row (before_first is_c text))) (option_and_then (on_axis (pos 16384)) (line_of column (after_first is_c text)))
    else None

abbrev pub r1c1_spot : ℤ → ℤ → List ℕ → Option Spot
r1c1_spot row column [] = None
r1c1_spot row column (c ∷ text) = if to_ascii_uppercase c == 82 then row_and_column row column text else None

abbrev pub same_ends : Option Spot → Option Ends
same_ends (Some spot) = Some (record { one = spot; other = spot })
same_ends None = None

abbrev pub r1c1_ends : ℤ → ℤ → List ℕ → Option Ends
r1c1_ends row column text =
    if has_colon text then ends_at (r1c1_spot row column (before_first is_colon text)) (r1c1_spot row column (after_first is_colon text))
    else same_ends (r1c1_spot row column text)
