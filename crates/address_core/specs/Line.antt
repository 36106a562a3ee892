-- Columns by their letters, rows by their digits.
--   column_letters     the letters of a column, by its number from 1: one letter for the first 26, two for the next 676, three for the others
--   letters_on_sheet   those letters, where the sheet has the column
--   number_to_column   the same of any number: none of 0 and of a negative one
--   column_number      what letters say, each counting from `A` as 1 and 26 times as much one place further left
--   column_of          the number of a column of the sheet by its letters, of which there are one to three, in either case
--   row_of             the number of a row of the sheet by its digits, of which there are one to seven, the first not 0
use Rattle.std.specs.Prelude.{ℕ, ◌+◌, ◌-◌, ◌*◌, ◌/◌, ◌%◌, ◌==◌, nat_le, nat_lt, ℤ, pos, negsuc, Bool, not, ◌&&◌, if◌then◌else◌, Option, Some, None, List, [], ◌∷◌, length, slice_index}
use Rattle.std.specs.Char.{is_ascii_alphabetic, is_ascii_digit, to_ascii_uppercase}
use Rattle.std.specs.List.{list_all}
use Rattle.std.specs.Str.Parse.{digits_value}

-- a letter by its number from 0
abbrev pub letter : ℕ → ℕ
letter n = 65 + n

-- the letters of the column that has so many columns before it
abbrev pub letters_after : ℕ → List ℕ
letters_after n =
    if nat_lt n 26 then letter n ∷ []
    else (if nat_lt n 702 then letter ((n - 26) / 26) ∷ letter ((n - 26) % 26) ∷ []
    else letter ((n - 702) / 676) ∷ letter ((n - 702) / 26 % 26) ∷ letter ((n - 702) % 26) ∷ [])

abbrev pub column_letters : ℕ → List ℕ
column_letters column = letters_after (column - 1)

abbrev pub is_column : ℕ → Bool
is_column column = nat_le 1 column && nat_le column 16384

abbrev pub letters_on_sheet : ℕ → Option (List ℕ)
letters_on_sheet column = if is_column column then Some (column_letters column) else None

abbrev pub number_to_column : ℤ → Option (List ℕ)
number_to_column (pos column) = letters_on_sheet column
number_to_column (negsuc n) = None

abbrev pub letter_value : ℕ → ℕ
letter_value c = to_ascii_uppercase c - 64

-- after the number that the letters before them say
abbrev pub column_number_after : ℕ → List ℕ → ℕ
column_number_after n [] = n
column_number_after n (c ∷ cs) = column_number_after (n * 26 + letter_value c) cs

abbrev pub column_number : List ℕ → ℕ
column_number letters = column_number_after 0 letters

abbrev pub are_letters : List ℕ → Bool
are_letters text = nat_le 1 (length text) && nat_le (length text) 3 && list_all is_ascii_alphabetic text

abbrev pub column_of : List ℕ → Option ℕ
column_of text = if are_letters text && nat_le (column_number text) 16384 then Some (column_number text) else None

abbrev pub are_digits : List ℕ → Bool
are_digits text = nat_le 1 (length text) && nat_le (length text) 7 && list_all is_ascii_digit text

-- the number of one to seven digits
abbrev pub few_digits : List ℕ → Option ℕ
few_digits text = if are_digits text then Some (digits_value 10 text) else None

abbrev pub row_of : List ℕ → Option ℕ
row_of text = if not (slice_index text 0 == 48) && are_digits text && nat_le (digits_value 10 text) 1048576 then Some (digits_value 10 text) else None
