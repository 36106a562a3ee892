-- Laws of the memory behind the devices.
use Rattle.std.proofs.Common.{◌≡◌, ℕ, ◌+◌, ◌-◌, ◌≤◌, ◌<◌, min, List, ◌++◌, length, take, drop, refl, sym, ◌∙◌, ap, subst, arith}
use Rattle.device_core.specs.Store.{Store, stored}
use Rattle.std.specs.Prelude.{Bool, true, false, ◌||◌, nat_lt}
use Rattle.std.proofs.lemmas.Bool.{lt-ltb}
use Rattle.std.proofs.Math.Seq.{take-append-add}
use Rattle.std.proofs.lemmas.List.{take_at, take_min, take_rest, take-append-drop, drop-drop, length-take-le}

-- what was left is the copy of its front, and what is left now
pub give_splits : (old bytes read copied tail : List ℕ) (at n : ℕ) → drop at bytes ≡ old → read ≡ bytes → n ≤ length (take (length read - at) (drop at read)) → copied ≡ take n (take (length read - at) (drop at read)) → old ≡ take n (copied ++ tail) ++ drop (at + n) bytes
give_splits old bytes read copied tail at n view same short copy =
    let rest : take (length read - at) (drop at read) ≡ old = take_rest read at ∙ ap (λ s. drop at s) same ∙ view in
    let front : copied ≡ take n old = copy ∙ ap (λ s. take n s) rest in
    let fits : n ≤ length old = subst (λ s. n ≤ length s) rest short in
    let given : take n (copied ++ tail) ≡ take n old = take_at copied tail n (ap length front ∙ length-take-le n old fits) ∙ front in
    let left : drop (at + n) bytes ≡ drop n old = sym (drop-drop n at bytes) ∙ ap (λ s. drop n s) view in
    sym (ap (λ s. s ++ drop (at + n) bytes) given ∙ ap (λ s. take n old ++ s) left ∙ take-append-drop n old)

-- a second fact that holds makes a choice of two hold
or_true : (a b : Bool) → b ≡ true → true ≡ (a || b)
or_true true b h = refl
or_true false b h = sym h

-- a room keeps the first bytes that fit
pub take_stored : (kept bytes : List ℕ) (size : ℕ) → length kept ≤ size → take size (kept ++ bytes) ≡ kept ++ take (min (length bytes) (size - length kept)) bytes
take_stored kept bytes size h =
    let whole : size ≡ length kept + (size - length kept) = omega arith in
    let swapped : min (length bytes) (size - length kept) ≡ min (size - length kept) (length bytes) = omega arith in
    ap (λ n. take n (kept ++ bytes)) whole ∙ take-append-add kept bytes (size - length kept)
    ∙ ap (λ s. kept ++ s) (sym (take_min (size - length kept) bytes))
    ∙ ap (λ n. kept ++ take n bytes) (sym swapped)

-- what a room holds once a byte came past it
pub stored_past : (kept bytes new : List ℕ) (size held count : ℕ) (before : Bool) → held ≡ length kept → held ≤ size → count ≡ min (length bytes) (size - held) → count < length bytes → new ≡ kept ++ take count bytes → record { kept = new; size = size; overrun = true } ≡ stored (record { kept = kept; size = size; overrun = before }) bytes
stored_past kept bytes new size held count before h fits c more e =
    let first : count ≡ min (length bytes) (size - length kept) = c ∙ ap (λ n. min (length bytes) (size - n)) h in
    let room : length kept ≤ size = omega arith in
    let past : nat_lt size (length kept + length bytes) ≡ true = lt-ltb _ _ (omega arith) in
    let firsts : new ≡ take size (kept ++ bytes) = e ∙ ap (λ n. kept ++ take n bytes) first ∙ sym (take_stored kept bytes size room) in
    let state : List ℕ → Bool → Store = λ ks b. record { kept = ks; size = size; overrun = b } in
    ap (λ ks. state ks true) firsts ∙ ap (λ b. state (take size (kept ++ bytes)) b) (or_true before _ past)
