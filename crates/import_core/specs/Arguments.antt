-- Arguments by their numbers.
--   each  what comes of each argument, by its number from 0
use Rattle.std.specs.Prelude.{ℕ, suc, List, [], ◌∷◌}

abbrev pub each : {A B : Type 0} → (ℕ → A → B) → List A → List B
each f [] = []
each f (arg ∷ args) = f 0 arg ∷ each (λ i. f (suc i)) args
