-- An element that is written over, and written back.
use Rattle.std.proofs.Common.{◌≡◌, ℕ, zero, suc, ◌+◌, ◌<◌, length, drop, get_or, add-one, List, [], ◌∷◌, Option, Some, None, slice_get, refl, ap}
use Rattle.std.proofs.Math.Seq.{drop-cons}
use Rattle.std.specs.Prelude.{slice_set}
use Rattle.std.specs.Option.{option_map_or}

pub set_back : {A : Type 0} (xs : List A) (i : ℕ) (x : A) → option_map_or (slice_set (slice_set xs i x) i) (slice_get xs i) (slice_set xs i x) ≡ xs
set_back [] i x = refl
set_back (y ∷ ys) zero x = refl
set_back {A} (y ∷ ys) (suc i) x = below (slice_get ys i) (set_back ys i x)
  where
    below : (was : Option A) → option_map_or (slice_set (slice_set ys i x) i) was (slice_set ys i x) ≡ ys → option_map_or (slice_set (y ∷ slice_set ys i x) (suc i)) was (y ∷ slice_set ys i x) ≡ y ∷ ys
    below (Some z) h = ap (λ zs. y ∷ zs) h
    below None h = ap (λ zs. y ∷ zs) h

-- what is left of a list from an element on
pub drop-next : {A : Type 0} (xs : List A) (at : ℕ) (d : A) → at < length xs → drop at xs ≡ get_or xs at d ∷ drop (at + 1) xs
drop-next xs at d h = rw add-one (drop-cons xs at d h)
