-- One product of a power.
use Rattle.std.proofs.Common.{◌≡◌, ℕ, suc, ◌+◌, ◌-◌, ◌<◌, ℤ, Result, Ok, Err, ap, sym, ◌∙◌, arith}
use Rattle.value_core.specs.declared.error.Error.{Error}
use Rattle.number_core.specs.Number.{product, then_do, multiplied}

one-left : (n s : ℕ) → s < n → n - s ≡ suc (n - (s + 1))
one-left n s h = omega arith

turn : (b v : ℤ) (n s : ℕ) → s < n → multiplied b (n - s) v ≡ then_do (product v b) (multiplied b (n - (s + 1)))
turn b v n s h = ap (λ k. multiplied b k v) (one-left n s h)

pub multiplied-more : (b v w : ℤ) (n s : ℕ) → s < n → product v b ≡ Ok w → multiplied b (n - (s + 1)) w ≡ multiplied b (n - s) v
multiplied-more b v w n s h p = sym (turn b v n s h ∙ ap (λ r. then_do r (multiplied b (n - (s + 1)))) p)

pub multiplied-failed : (b v : ℤ) (e : Error) (n s : ℕ) (r : Result ℤ Error) → multiplied b (n - s) v ≡ r → s < n → product v b ≡ Err e → Err e ≡ r
multiplied-failed b v e n s r q h p = sym (ap (λ r. then_do r (multiplied b (n - (s + 1)))) p) ∙ sym (turn b v n s h) ∙ q

pub ruleset powers = (multiplied-more, multiplied-failed)
