-- The elements that are left are read behind the delimiters so far.
use Rattle.std.proofs.Common.{◌≡◌, [], drop}
use Rattle.text_functions.specs.TextSplit.{delimiters_behind}
use Rattle.text_functions.proofs.delimiters.delimiters_behind.Given as goal

abbrev pub invariant-loop-element : goal.invariant-loop-element
invariant-loop-element l = delimiters_behind l.texts.items (drop l.element-index l.elements) ≡ delimiters_behind [] l.elements
