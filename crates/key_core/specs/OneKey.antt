-- When two elements have one key.
--   HaveOneKey  they are of one kind and equal, texts where they are equal without case
use Rattle.std.specs.Prelude.{◌≡◌, ⊤}
use Rattle.value_core.specs.declared.array.ArrayNode.{ArrayNode}
use Rattle.value_core.specs.declared.array.ArrayNode.TheVariants.{Number, Boolean, String, Error as Wrong, Empty}
use Rattle.key_core.specs.Key.{folded}

abbrev pub HaveOneKey : ArrayNode → ArrayNode → Type 0
HaveOneKey (Number m) (Number n) = m ≡ n
HaveOneKey (Boolean a) (Boolean b) = a ≡ b
HaveOneKey (String s) (String t) = folded s ≡ folded t
HaveOneKey (Wrong d) (Wrong e) = d ≡ e
HaveOneKey Empty Empty = ⊤
HaveOneKey left right = ⊥
