-- Texts between marks.
--   doubled   a character, a mark twice
--   quoted    a text between two marks, each mark in it doubled
use Rattle.std.specs.Prelude.{ℕ, ◌==◌, if◌then◌else◌, List, [], ◌∷◌, ◌++◌, chars, encode_utf8_all, flat_map}

abbrev pub doubled : ℕ → ℕ → List ℕ
doubled mark c = if c == mark then c ∷ c ∷ [] else c ∷ []

abbrev pub quoted : ℕ → List ℕ → List ℕ
quoted mark text = (mark ∷ encode_utf8_all (flat_map (doubled mark) (chars text))) ++ mark ∷ []
