-- What is left of the text is what is left of the name, in quotes, just where the whole is.
use Rattle.std.proofs.Common.{◌≡◌, ◌∷◌, [], ◌++◌, drop}
use Rattle.std.specs.List.{flat_map}
use Rattle.std.specs.Str.{str_eq_ignore_ascii_case}
use Rattle.quote_core.specs.Quoted.{doubled}
use Rattle.reader_core.specs.Sheet.{is_quoted_name}
use Rattle.reader_core.proofs.sheet.is_quoted_name.Given as goal

abbrev pub invariant-loop-letter : goal.invariant-loop-letter
invariant-loop-letter l = str_eq_ignore_ascii_case l.rest (flat_map (doubled 39) (drop l.letter-index l.name) ++ 39 ∷ []) ≡ is_quoted_name l.name l.text
