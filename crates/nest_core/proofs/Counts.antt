-- How many arguments a call has that isn't refused.
--   Counts, between, enough   between two numbers, or at least one
--   by-none, by-one           a list by its length
use Rattle.std.proofs.Common.{◌≡◌, ℕ, ◌≤◌, Bool, true, false, nat_le, if◌then◌else◌, List, [], ◌∷◌, length, Option, Some, None, refl, arith}
use Rattle.std.proofs.lemmas.Bool.{and_parts, leb-true}
use Rattle.value_core.specs.declared.error.Error.{Error}
use Rattle.value_core.specs.declared.error.Error.TheVariants.{ERROR}
use Rattle.nest_core.specs.Asked.{is_between}

abbrev pub Counts : ℕ → ℕ → ℕ → Type 0
Counts least most count = (least ≤ count) × (count ≤ most)

passed : (b : Bool) → (if b then None else Some ERROR) ≡ None → b ≡ true
passed true h = refl
passed false h = cc

pub between : (least most count : ℕ) → (if is_between least most count then None else Some ERROR) ≡ None → Counts least most count
between least most count h = let p = and_parts _ _ (passed (is_between least most count) h) in (leb-true _ _ p.0, leb-true _ _ p.1)

pub enough : (least count : ℕ) → (if nat_le least count then None else Some ERROR) ≡ None → least ≤ count
enough least count h = leb-true _ _ (passed (nat_le least count) h)

pub by-one : {X : Type 0} (P : List X → Type 0) → ((x : X) → P (x ∷ [])) → (xs : List X) → length xs ≡ 1 → P xs
by-one P one [] h = absurd (omega (arith, h))
by-one P one (x ∷ []) h = one x
by-one P one (x ∷ y ∷ more) h = absurd (omega (arith, h))

pub by-none : {X : Type 0} (P : List X → Type 0) → P [] → (xs : List X) → length xs ≤ 0 → P xs
by-none P none [] h = none
by-none P none (x ∷ xs) h = absurd (omega (arith, h))
