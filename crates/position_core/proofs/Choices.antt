-- Numbers that each name one of so many.
use Rattle.std.proofs.Common.{◌≡◌, ℕ, zero, suc, ◌<◌, ℤ, List, [], ◌∷◌, length, get_or, true, arith}
use Rattle.std.proofs.lemmas.Bool.{and_parts}
use Rattle.position_core.specs.Axis.{is_choice}
use Rattle.position_core.specs.Check.{are_choices}

pub are_choices-at : (numbers : List ℤ) (total index : ℕ) (d : ℤ) → are_choices numbers total ≡ true → index < length numbers → is_choice (get_or numbers index d) total ≡ true
are_choices-at [] total index d h l = absurd (omega arith)
are_choices-at (number ∷ numbers) total zero d h l = (and_parts (is_choice number total) _ h).0
are_choices-at (number ∷ numbers) total (suc index) d h l = are_choices-at numbers total index d (and_parts (is_choice number total) _ h).1 (omega arith)
