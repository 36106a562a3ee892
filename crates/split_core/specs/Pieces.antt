-- A text cut at delimiters. Places are those of bytes.
--   same_bytes   whether bytes are alike: equal, or where the case is not looked at, equal but for the case of ASCII letters
--   begins       whether a text begins with a delimiter
--   none_empty   whether no delimiter of a list is empty
--   matched      how long the first delimiter of a list is with which a text begins
--   HasFirsts    a table that says of each byte whether a delimiter may match where it stands: where it says no, none does
--   pieces       the pieces of a text between the delimiters
--   IsFree       no delimiter matches at any of the first so many places of a text
--   EndsAt       a text is a piece, the first delimiter that matches behind it and a rest, and none matches inside the piece
--   AreCut       some pieces, with the delimiters between them as they were found, are the text, and none matches inside a piece
--   IsMatch      a delimiter of so many bytes matches at a place: characters begin, or the text ends, before and behind it
use Rattle.std.specs.Prelude.{◌≡◌, ℕ, zero, suc, ◌+◌, ◌-◌, ◌<◌, ◌≤◌, nat_le, Bool, false, ◌&&◌, ◌⊎◌, if◌then◌else◌, Option, Some, None, List, [], ◌∷◌, ◌++◌, length, get_or, take, drop}
use Rattle.std.specs.List.{list_all}
use Rattle.std.specs.Str.{bytes_eq, str_eq_ignore_ascii_case, IsCharBoundary}

abbrev pub same_bytes : Bool → List ℕ → List ℕ → Bool
same_bytes blind left right = if blind then str_eq_ignore_ascii_case left right else bytes_eq left right

abbrev pub begins : Bool → List ℕ → List ℕ → Bool
begins blind text delimiter = nat_le (length delimiter) (length text) && same_bytes blind (take (length delimiter) text) delimiter

abbrev pub none_empty : List (List ℕ) → Bool
none_empty delimiters = list_all (λ delimiter. nat_le 1 (length delimiter)) delimiters

abbrev pub matched : Bool → List (List ℕ) → List ℕ → Option ℕ
matched blind [] text = None
matched blind (delimiter ∷ delimiters) text = if begins blind text delimiter then Some (length delimiter) else matched blind delimiters text

abbrev pub HasFirsts : List (List ℕ) → List Bool → Type 0
HasFirsts delimiters firsts = (blind : Bool) (byte : ℕ) (text : List ℕ) → byte < 256 → get_or firsts byte false ≡ false → matched blind delimiters (byte ∷ text) ≡ None

-- some bytes in front of the first piece
abbrev pub in_front : List ℕ → List (List ℕ) → List (List ℕ)
in_front bytes [] = []
in_front bytes (piece ∷ others) = (bytes ++ piece) ∷ others

-- at a byte: a delimiter begins here, so many bytes long, and the piece before it ends; or the byte belongs to the piece
abbrev pub cut_at : Option ℕ → ℕ → (ℕ → List (List ℕ)) → List (List ℕ)
cut_at (Some n) byte pieces_past = [] ∷ pieces_past (n - 1)
cut_at None byte pieces_past = in_front (byte ∷ []) (pieces_past 0)

-- the pieces behind so many bytes
abbrev pub pieces_past : Bool → List (List ℕ) → ℕ → List ℕ → List (List ℕ)
pieces_past blind delimiters n [] = [] ∷ []
pieces_past blind delimiters (suc n) (byte ∷ text) = pieces_past blind delimiters n text
pieces_past blind delimiters zero (byte ∷ text) = cut_at (matched blind delimiters (byte ∷ text)) byte (λ n. pieces_past blind delimiters n text)

abbrev pub pieces : Bool → List (List ℕ) → List ℕ → List (List ℕ)
pieces blind delimiters text = pieces_past blind delimiters 0 text

abbrev pub IsFree : Bool → List (List ℕ) → List ℕ → ℕ → Type 0
IsFree blind delimiters text n = (i : ℕ) → i < n → matched blind delimiters (drop i text) ≡ None

pub record EndsAt (blind : Bool) (delimiters : List (List ℕ)) (text piece delimiter rest : List ℕ) : Type 0 where
  pub joined : text ≡ piece ++ (delimiter ++ rest)
  pub first : matched blind delimiters (delimiter ++ rest) ≡ Some (length delimiter)
  pub free : IsFree blind delimiters text (length piece)

abbrev pub AreCut : Bool → List (List ℕ) → List ℕ → List (List ℕ) → Type 0
AreCut blind delimiters text [] = ⊥
AreCut blind delimiters text (piece ∷ others) =
    ((others ≡ []) × (text ≡ piece) × IsFree blind delimiters text (length piece))
    ⊎ ((delimiter : List ℕ) × (rest : List ℕ) × EndsAt blind delimiters text piece delimiter rest × AreCut blind delimiters rest others)

pub record IsMatch (text : List ℕ) (place n : ℕ) : Type 0 where
  pub some : 1 ≤ n
  pub start : IsCharBoundary text place
  pub end : IsCharBoundary text (place + n)
