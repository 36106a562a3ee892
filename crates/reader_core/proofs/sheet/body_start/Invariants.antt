-- No byte from the place on is a `!`.
use Rattle.std.proofs.Common.{◌≡◌, ℕ, ◌<◌, ◌≤◌, true, get_or, length}
use Rattle.reader_core.specs.Sheet.{is_no_mark}
use Rattle.reader_core.proofs.sheet.body_start.Given as goal

abbrev pub invariant-loop-start : goal.invariant-loop-start
invariant-loop-start l = record {
  within : l.start ≤ length l.text;
  none : (k : ℕ) → l.start ≤ k → k < length l.text → is_no_mark (get_or l.text k 0) ≡ true;
}

abbrev pub decreases-loop-start : goal.decreases-loop-start
decreases-loop-start l = l.start
