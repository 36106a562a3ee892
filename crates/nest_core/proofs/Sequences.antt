-- Sizes of sequences.
--   some-count    a count that is not refused
--   sheet-size    a size that passes its limits
--   has-places    at least one row and one column
--   sequence-sound   a sequence of such a size
use Rattle.std.proofs.Common.{◌≡◌, ℕ, zero, suc, ℤ, pos, negsuc, ◌*◌, ◌≤◌, Bool, true, false, Some, None, option_map, if◌then◌else◌, nat_lt, unsigned_abs, refl, ap, ◌∙◌, arith}
use Rattle.std.proofs.lemmas.Bool.{and_from, le-leb, ltb-false}
use Rattle.value_core.specs.declared.error.Error.{Error}
use Rattle.position_core.specs.Check.{checked}
use Rattle.position_core.specs.Sized.{size}
use Rattle.position_core.specs.declared.limit.SizeLimit.{SizeLimit}
use Rattle.position_core.specs.declared.reshape.Size.{Size}
use Rattle.array_ops.specs.Sequence.{count_refused}
use Rattle.nest_core.specs.Shown.{has_places, is_sheet_size, is_sound}
use Rattle.nest_core.specs.declared.nest.Nest.TheVariants.{Sequence}
use Rattle.nest_core.proofs.Nests.{known-sequence}

pub some-count : (count : ℤ) → count_refused count ≡ None → 1 ≤ unsigned_abs count
some-count (pos zero) h = cc
some-count (pos (suc n)) h = omega arith
some-count (negsuc n) h = cc

passes : (a b c : Bool) (x y z : Error × SizeLimit) →
    option_map (λ (found : Error × SizeLimit). found.0) (if a then Some x else if b then Some y else if c then Some z else None) ≡ None → (a ≡ false) × (b ≡ false)
passes true b c x y z h = cc
passes false true c x y z h = cc
passes false false c x y z h = (refl, refl)

pub sheet-size : (rows columns limit : ℕ) → checked rows columns limit ≡ None → is_sheet_size (size rows columns) ≡ true
sheet-size rows columns limit h =
    let within = passes (nat_lt 16384 columns) (nat_lt 1048576 rows) (nat_lt limit (rows * columns)) _ _ _ h in
    and_from _ _ (le-leb rows 1048576 (ltb-false 1048576 rows within.1)) (le-leb columns 16384 (ltb-false 16384 columns within.0))

pub has-places : (rows columns : ℕ) → 1 ≤ rows → 1 ≤ columns → has_places (size rows columns) ≡ true
has-places rows columns h k = and_from _ _ (le-leb 1 rows h) (le-leb 1 columns k)

pub sequence-sound : (s : Size) (start step : ℤ) → has_places s ≡ true → is_sheet_size s ≡ true → is_sound (Sequence s start step) ≡ true
sequence-sound s start step h k = ap (λ (z : Size × Bool). z.1) (known-sequence s start step) ∙ and_from _ _ h k

pub ruleset sequences = (some-count, sheet-size, has-places, sequence-sound)
