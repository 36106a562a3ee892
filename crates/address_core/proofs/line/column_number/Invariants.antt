-- The letters that are left are read after the number so far, which is small.
use Rattle.std.proofs.Common.{◌≡◌, ◌≤◌, drop}
use Rattle.address_core.specs.Line.{column_number, column_number_after}
use Rattle.address_core.proofs.line.column_number.Given as goal

abbrev pub invariant-loop-letter : goal.invariant-loop-letter
invariant-loop-letter l = record {
  same : column_number_after l.number (drop l.letter-index l.letters) ≡ column_number l.letters;
  first : l.letter-index ≡ 0 → l.number ≤ 0;
  second : l.letter-index ≡ 1 → l.number ≤ 255;
  third : l.letter-index ≡ 2 → l.number ≤ 6885;
}
