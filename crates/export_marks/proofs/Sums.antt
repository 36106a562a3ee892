-- Counts of `@`s, as sums.
--   one_part  of two sums that differ by one, one part does
use Rattle.std.proofs.Common.{◌≡◌, ℕ, zero, suc, ◌+◌, ◌≤◌, inl, inr, ◌⊎◌, refl, arith}

pub one_part : (a b c d : ℕ) → a ≤ b → c ≤ d → b + d ≡ (a + c) + 1 → ((b ≡ a + 1) × (d ≤ c)) ⊎ ((b ≤ a) × (d ≡ c + 1))
one_part zero zero c d h k e = inr (omega arith, omega arith)
one_part zero (suc zero) c d h k e = inl (refl, omega arith)
one_part zero (suc (suc b)) c d h k e = absurd (omega arith)
one_part (suc a) zero c d h k e = absurd (omega arith)
one_part (suc a) (suc b) c d h k e = elim (one_part a b c d (omega arith) k (omega arith)) [
  | inl x ↦ inl (let f = x.0 in omega arith, x.1)
  | inr x ↦ inr (let f = x.0 in omega arith, x.1)
]
