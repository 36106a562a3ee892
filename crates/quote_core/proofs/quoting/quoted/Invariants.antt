-- A mark, and the characters so far, each mark among them doubled.
use Rattle.std.proofs.Common.{◌≡◌, ◌∷◌, string_bytes, encode_utf8_all, flat_map}
use Rattle.quote_core.specs.Quoted.{doubled}
use Rattle.quote_core.proofs.quoting.quoted.Given as goal

abbrev pub invariant-loop-letter : goal.invariant-loop-letter
invariant-loop-letter l = string_bytes l.made ≡ l.mark ∷ encode_utf8_all (flat_map (doubled l.mark) l.yielded)
