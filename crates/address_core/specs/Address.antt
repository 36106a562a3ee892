-- Cells as texts.
--   place_of       a cell by its row and column, from 1, and which of the two are absolute by the style from 1 to 4: both, the row
--                  alone, the column alone, neither. None of any other number
--   a1_text        the column's letters and the row, a `$` before each that is absolute; none past the last column of the sheet
--   r1c1_text      `R` and the row, `C` and the column, each that is not absolute in brackets
--   place_text     the one or the other
--   prefix_of      the name of a sheet as it stands before a `!`, and that `!`
--   address_text   the text of a cell, with the sheet where one is given
use Rattle.std.specs.Prelude.{ℕ, zero, suc, ℤ, pos, negsuc, Bool, true, false, if◌then◌else◌, Option, Some, None, List, [], ◌∷◌, ◌++◌}
use Rattle.std.specs.Option.{option_map}
use Rattle.std.specs.Ordering.{int_eq}
use Rattle.std.specs.Fmt.{decimal}
use Rattle.address_core.specs.Line.{letters_on_sheet}
use Rattle.address_core.specs.Quote.{quote_name}
use Rattle.address_core.specs.declared.address.Place.{Place}
use Rattle.address_core.specs.declared.address.Style.{Style}

abbrev pub line_of : ℤ → Option ℕ
line_of (pos zero) = None
line_of (pos (suc n)) = Some (suc n)
line_of (negsuc n) = None

abbrev pub style_of : ℤ → Option Style
style_of number =
    if int_eq number (pos 1) then Some (record { absolute_row = true; absolute_column = true })
    else (if int_eq number (pos 2) then Some (record { absolute_row = true; absolute_column = false })
    else (if int_eq number (pos 3) then Some (record { absolute_row = false; absolute_column = true })
    else (if int_eq number (pos 4) then Some (record { absolute_row = false; absolute_column = false })
    else None)))

abbrev pub placed : Option ℕ → Option ℕ → Option Style → Option Place
placed (Some row) (Some column) (Some style) = Some (record { row = row; column = column; style = style })
placed (Some row) (Some column) None = None
placed (Some row) None style = None
placed None column style = None

abbrev pub place_of : ℤ → ℤ → ℤ → Option Place
place_of row column style = placed (line_of row) (line_of column) (style_of style)

abbrev pub dollar : Bool → List ℕ
dollar absolute = if absolute then 36 ∷ [] else []

abbrev pub a1_with : Place → List ℕ → List ℕ
a1_with place letters = dollar place.style.absolute_column ++ letters ++ dollar place.style.absolute_row ++ decimal place.row

abbrev pub a1_text : Place → Option (List ℕ)
a1_text place = option_map (a1_with place) (letters_on_sheet place.column)

abbrev pub line_text : Bool → ℕ → List ℕ
line_text absolute line = if absolute then decimal line else 91 ∷ decimal line ++ 93 ∷ []

abbrev pub r1c1_text : Place → List ℕ
r1c1_text place = 82 ∷ line_text place.style.absolute_row place.row ++ 67 ∷ line_text place.style.absolute_column place.column

abbrev pub place_text : Bool → Place → Option (List ℕ)
place_text a1 place = if a1 then a1_text place else Some (r1c1_text place)

abbrev pub prefix_of : Option (List ℕ) → List ℕ
prefix_of (Some sheet) = quote_name sheet ++ 33 ∷ []
prefix_of None = []

abbrev pub with_prefix : Option (List ℕ) → Option (List ℕ) → Option (List ℕ)
with_prefix sheet (Some text) = Some (prefix_of sheet ++ text)
with_prefix sheet None = None

abbrev pub text_at : Bool → Option (List ℕ) → Option Place → Option (List ℕ)
text_at a1 sheet (Some place) = with_prefix sheet (place_text a1 place)
text_at a1 sheet None = None

abbrev pub address_text : ℤ → ℤ → ℤ → Bool → Option (List ℕ) → Option (List ℕ)
address_text row column style a1 sheet = text_at a1 sheet (place_of row column style)
