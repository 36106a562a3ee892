-- The rows so far.
use Rattle.std.proofs.Common.{◌≡◌, ◌++◌, codes, map, string_bytes, take}
use Rattle.array_texts.specs.ArrayText.{joined, row_text}
use Rattle.array_texts.proofs.text.push_rows.Given as goal

abbrev pub invariant-loop-row : goal.invariant-loop-row
invariant-loop-row l = string_bytes l.made ≡ string_bytes l.initial.made ++ joined (codes ";") (map row_text (take l.row l.grid))
