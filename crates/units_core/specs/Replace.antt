-- Parts of a text, by its bytes.
--   holds            whether a part stands in a text
--   replaced         a text with another in place of each part that is this one, from left to right; parts don't overlap
--   replaced_behind  the same of what is left of a text behind so many bytes
use Rattle.std.specs.Prelude.{ℕ, zero, suc, ◌-◌, Bool, ◌||◌, if◌then◌else◌, List, [], ◌∷◌, ◌++◌, length, nat_eq}
use Rattle.std.specs.List.{starts_with}

abbrev pub holds : List ℕ → List ℕ → Bool
holds part [] = starts_with nat_eq [] part
holds part (byte ∷ text) = starts_with nat_eq (byte ∷ text) part || holds part text

abbrev pub replaced_behind : ℕ → List ℕ → List ℕ → List ℕ → List ℕ
replaced_behind skipped old new [] = []
replaced_behind (suc skipped) old new (byte ∷ text) = replaced_behind skipped old new text
replaced_behind zero old new (byte ∷ text) =
    if starts_with nat_eq (byte ∷ text) old then new ++ replaced_behind (length old - 1) old new text
    else byte ∷ replaced_behind zero old new text

abbrev pub replaced : List ℕ → List ℕ → List ℕ → List ℕ
replaced old new text = replaced_behind zero old new text
