-- The test of codes is an equality, and what it finds equal is fed alike to a hasher.
use Rattle.std.specs.Prelude.{◌≡◌, List, ℕ, refl, IsTrue}
use Rattle.std.specs.Coded.{Coded}
use Rattle.std.specs.Cmp.{IsEquivalence, equiv}
use Rattle.std.proofs.Common.{ap}
use Rattle.own_items.specs.Sameness.{same, same-laws, same_since, one_value}

pub same-equivalence : {A : Type 0} (coded : Coded A) → IsEquivalence (same coded)
same-equivalence coded = equiv (same-laws coded) (λ x. same_since coded x x refl)

pub same-alike : {A : Type 0} (coded : Coded A) (input : A → List (List ℕ)) → (x y : A) → IsTrue (same coded x y) → input x ≡ input y
same-alike coded input x y h = ap input (one_value coded x y h)
