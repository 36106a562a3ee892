-- Arrays whose elements are all of one kind.
--
-- `traverse`  what is found at every element, if something is found at each
use Rattle.std.specs.Prelude.{List, [], ◌∷◌, Option, Some}
use Rattle.value_json.specs.Fields.{◌>>=◌}

abbrev pub traverse : {A B : Type 0} → (A → Option B) → List A → Option (List B)
traverse find [] = Some []
traverse find (element ∷ elements) = do
  found ← find element
  later ← traverse find elements
  Some (found ∷ later)
