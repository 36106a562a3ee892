-- How the answer of a reader is tied to what stands in the bytes.
--
-- `FindsBy`  a reader that needs no memory: its value, seen by a function, is what stands there, and it refuses
--            exactly where nothing does
-- `GivesBy`  the same of a reader that may want memory, and then says nothing of what stands there
-- `Finds`    `FindsBy`, of the value itself
-- `Gives`    `GivesBy`, of the value itself
use Rattle.std.specs.Prelude.{◌≡◌, Option, Some, None, Result, Ok, Err, ⊤}
use Rattle.value_json.specs.declared.error.FormError.{FormError}
use Rattle.value_json.specs.declared.error.FormError.TheVariants.{Memory, NotOfForm}

abbrev pub FindsBy : {T S : Type 0} → (T → S) → Result T FormError → Option S → Type 0
FindsBy seen (Ok value) there = there ≡ Some (seen value)
FindsBy seen (Err NotOfForm) there = there ≡ None
FindsBy seen (Err Memory) there = ⊥

abbrev pub GivesBy : {T S : Type 0} → (T → S) → Result T FormError → Option S → Type 0
GivesBy seen (Ok value) there = there ≡ Some (seen value)
GivesBy seen (Err NotOfForm) there = there ≡ None
GivesBy seen (Err Memory) there = ⊤

abbrev pub Finds : {T : Type 0} → Result T FormError → Option T → Type 0
Finds result there = FindsBy (λ value. value) result there

abbrev pub Gives : {T : Type 0} → Result T FormError → Option T → Type 0
Gives result there = GivesBy (λ value. value) result there
