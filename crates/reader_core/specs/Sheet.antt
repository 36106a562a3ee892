-- The sheet that stands before a reference.
--   body_of, head_of   what stands behind the last `!` of a text, and what stands before it, where there is one
--   is_quoted_name     whether a text behind a `'` is a name in which each `'` is doubled, and a last `'`; the case of ASCII letters is not
--                      looked at
--   is_plain_name      whether a text is a name that is not empty and has no `!`, but for the case of ASCII letters
--   is_name            the one or the other: a text that begins with `'` is no plain name
--   named_sheet        the first sheet of that name, by its number from 0
--   sheet_of           the sheet that is named, or where none is named the given one; none where the book has no such sheet
use Rattle.std.specs.Prelude.{ℕ, ◌-◌, ◌==◌, nat_le, nat_lt, Bool, false, ◌&&◌, not, if◌then◌else◌, Option, Some, None, option_and_then, List, [], ◌∷◌, ◌++◌, length, take, drop, position}
use Rattle.std.specs.Char.{eq_ignore_ascii_case}
use Rattle.std.specs.List.{flat_map, list_any, suffix_len}
use Rattle.std.specs.Str.{str_eq_ignore_ascii_case}
use Rattle.quote_core.specs.Quoted.{doubled}

abbrev pub is_mark : ℕ → Bool
is_mark c = c == 33

abbrev pub is_no_mark : ℕ → Bool
is_no_mark c = not (c == 33)

-- the place behind the last `!`, or 0 where there is none
abbrev pub body_start : List ℕ → ℕ
body_start text = length text - suffix_len is_no_mark text

abbrev pub body_of : List ℕ → List ℕ
body_of text = drop (body_start text) text

abbrev pub head_of : List ℕ → Option (List ℕ)
head_of text = if nat_le 1 (body_start text) then Some (take (body_start text - 1) text) else None

abbrev pub is_quoted_name : List ℕ → List ℕ → Bool
is_quoted_name name text = str_eq_ignore_ascii_case text (flat_map (doubled 39) name ++ 39 ∷ [])

abbrev pub is_plain_name : List ℕ → List ℕ → Bool
is_plain_name name text = nat_le 1 (length text) && (not (list_any is_mark text) && str_eq_ignore_ascii_case text name)

abbrev pub is_name : List ℕ → List ℕ → Bool
is_name [] name = false
is_name (c ∷ text) name = if c == 39 then is_quoted_name name text else is_plain_name name (c ∷ text)

abbrev pub named_sheet : List (List ℕ) → List ℕ → Option ℕ
named_sheet sheets head = position (is_name head) sheets

abbrev pub given_sheet : List (List ℕ) → ℕ → Option ℕ
given_sheet sheets sheet = if nat_lt sheet (length sheets) then Some sheet else None

abbrev pub sheet_of : List (List ℕ) → ℕ → Option (List ℕ) → Option ℕ
sheet_of sheets sheet (Some head) = named_sheet sheets head
sheet_of sheets sheet None = given_sheet sheets sheet

-- what is left of a text behind a byte in either case, and behind a letter of a name in which each `'` is doubled
abbrev pub past_byte : ℕ → List ℕ → Option (List ℕ)
past_byte c [] = None
past_byte c (b ∷ text) = if eq_ignore_ascii_case b c then Some text else None

abbrev pub past_letter : ℕ → List ℕ → Option (List ℕ)
past_letter c text = option_and_then (λ rest. if c == 39 then past_byte c rest else Some rest) (past_byte c text)
