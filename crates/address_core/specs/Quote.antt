-- Names of sheets in quotes.
--   has_other        whether a character is no letter, ASCII digit, `_` or `.`
--   starts_low       whether the first one is a digit or `.`
--   is_cell_name     whether it is the letters of a column of the sheet and then the digits of a row of it
--   is_r1c1_name     whether it is `R`, digits or none, `C`, digits or none, in either case of the two letters
--   needs_quotes     whether one of these holds
--   quote_name       a name as it stands before a `!`
use Rattle.std.specs.Prelude.{ℕ, ◌==◌, Bool, false, ◌&&◌, ◌||◌, not, if◌then◌else◌, is_some, List, [], ◌∷◌, drop, chars}
use Rattle.std.specs.List.{list_all, list_any, prefix_len, take_while}
use Rattle.std.specs.Char.{is_ascii_alphabetic, is_ascii_digit, to_ascii_uppercase}
use Rattle.unicode.specs.Binary.{is_alphabetic}
use Rattle.quote_core.specs.Quoted.{quoted}
use Rattle.address_core.specs.Line.{column_of, row_of}

abbrev pub is_plain : ℕ → Bool
is_plain c = is_alphabetic c || (is_ascii_digit c || (c == 95 || c == 46))

abbrev pub has_other : List ℕ → Bool
has_other name = list_any (λ c. not (is_plain c)) (chars name)

abbrev pub starts_low : List ℕ → Bool
starts_low [] = false
starts_low (c ∷ cs) = is_ascii_digit c || c == 46

-- what stands behind the letters, or the digits, that a text begins with
abbrev pub past_letters : List ℕ → List ℕ
past_letters text = drop (prefix_len is_ascii_alphabetic text) text

abbrev pub past_digits : List ℕ → List ℕ
past_digits text = drop (prefix_len is_ascii_digit text) text

abbrev pub is_cell_name : List ℕ → Bool
is_cell_name name = is_some (column_of (take_while is_ascii_alphabetic name)) && is_some (row_of (past_letters name))

abbrev pub is_letter : ℕ → ℕ → Bool
is_letter letter c = to_ascii_uppercase c == letter

-- a letter in either case, and then digits or none
abbrev pub ends_r1c1 : List ℕ → Bool
ends_r1c1 [] = false
ends_r1c1 (c ∷ cs) = is_letter 67 c && list_all is_ascii_digit cs

abbrev pub is_r1c1_name : List ℕ → Bool
is_r1c1_name [] = false
is_r1c1_name (c ∷ cs) = is_letter 82 c && ends_r1c1 (past_digits cs)

abbrev pub needs_quotes : List ℕ → Bool
needs_quotes name = has_other name || (starts_low name || (is_cell_name name || is_r1c1_name name))

abbrev pub quote_name : List ℕ → List ℕ
quote_name name = if needs_quotes name then quoted 39 name else name
