-- The elements so far.
use Rattle.std.proofs.Common.{◌≡◌, ◌++◌, map, string_bytes, take}
use Rattle.array_texts.specs.ArrayText.{element_text, joined}
use Rattle.array_texts.proofs.text.push_elements.Given as goal

abbrev pub invariant-loop-index : goal.invariant-loop-index
invariant-loop-index l = string_bytes l.made ≡ string_bytes l.initial.made ++ joined l.between (map (element_text l.strict) (take l.index l.elements))
