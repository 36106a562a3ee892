-- The words that the program is run with.
--   begins_in_vain   a sign first, or a 0 with others behind it
--   at_most          a number that is at most so large
--   number_in        the number that a word of digits is, at most so large
--   place_in         the row or column, from 1, that a word is; cell_of, both
--   command_of_one, command_of_two, command_of_three   the command of one word, of two, and of three
--   command_of       the command that the words are, if they are one
--   command_in       the same, of words as the program has them
--   command_in_text  the same, of a text, whose words stand between its spaces
use Rattle.std.specs.Prelude.{ℕ, zero, suc, ◌==◌, nat_le, Bool, false, not, ◌&&◌, ◌||◌, List, [], ◌∷◌, map, String, string_bytes, codes, if◌then◌else◌, Option, None, Some}
use Rattle.std.specs.List.{slice_split}
use Rattle.std.specs.Option.{option_map}
use Rattle.std.specs.Str.{bytes_eq}
use Rattle.std.specs.Str.Parse.{digits_value}
use Rattle.std.specs.declared.alloc.Global.{Global}
use Rattle.number_core.specs.NumberText.{is_digits}
use Rattle.answer_core.specs.declared.command.Command.{Command}
use Rattle.answer_core.specs.declared.command.Command.TheVariants.{Answer, Cell, Generate}

abbrev pub begins_in_vain : List ℕ → Bool
begins_in_vain [] = false
begins_in_vain (first ∷ []) = first == 43
begins_in_vain (first ∷ next ∷ others) = first == 43 || first == 48

abbrev pub at_most : (most number : ℕ) → Option ℕ
at_most most number = if nat_le number most then Some number else None

abbrev pub number_in : ℕ → List ℕ → Option ℕ
number_in most word = if not (begins_in_vain word) && is_digits word then at_most most (digits_value 10 word) else None

abbrev pub command_of_one : List ℕ → Option Command
command_of_one word = if bytes_eq word (codes "answer") then Some Answer else None

abbrev pub command_of_two : List ℕ → List ℕ → Option Command
command_of_two word number = if bytes_eq word (codes "generate") then option_map Generate (number_in 999999 number) else None

-- 0 is no place
abbrev pub from_one : Option ℕ → Option ℕ
from_one None = None
from_one (Some zero) = None
from_one (Some (suc n)) = Some (suc n)

abbrev pub place_in : List ℕ → Option ℕ
place_in word = from_one (number_in 4294967295 word)

abbrev pub cell_of : (row column : Option ℕ) → Option Command
cell_of (Some row) (Some column) = Some (Cell row column)
cell_of (Some row) None = None
cell_of None column = None

abbrev pub command_of_three : List ℕ → List ℕ → List ℕ → Option Command
command_of_three word row column = if bytes_eq word (codes "cell") then cell_of (place_in row) (place_in column) else None

abbrev pub command_of : List (List ℕ) → Option Command
command_of [] = None
command_of (word ∷ []) = command_of_one word
command_of (word ∷ number ∷ []) = command_of_two word number
command_of (word ∷ row ∷ column ∷ []) = command_of_three word row column
command_of (word ∷ first ∷ second ∷ third ∷ words) = None

abbrev pub command_in : List (String Global) → Option Command
command_in words = command_of (map string_bytes words)

abbrev pub command_in_text : List ℕ → Option Command
command_in_text text = command_of (slice_split (λ byte. byte == 32) text)
