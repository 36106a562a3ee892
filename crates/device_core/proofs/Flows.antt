-- Laws of what flows through a device.
use Rattle.std.proofs.Common.{ℕ, ◌+◌, ◌-◌, ◌≤◌, List, [], ◌++◌, length, length-append, take, drop, refl, sym, ◌∙◌, ap, append_assoc, subst, arith}
use Rattle.std.specs.Prelude.{Option, None, Some, Result, Ok, Err, OnErr}
use Rattle.std.proofs.Math.Seq.{take-add}
use Rattle.std.proofs.lemmas.List.{take-append-drop, take_rest}
use Rattle.std.proofs.lemmas.Grind.{common_steps}
use Rattle.device_core.specs.Flow.{Adds, AddsFront, Consumes, ConsumesAtMost}

-- a fact that holds anyway holds at an error
pub OnErr-always : {T E P : Type 0} (r : Result T E) → P → OnErr r P
OnErr-always (Ok x) p = tt
OnErr-always (Err e) p = p

-- nothing was added where nothing happened
pub Adds-none : (o : Option (List ℕ)) → Adds o o []
Adds-none None = tt
Adds-none (Some xs) = grind (arith, common_steps)

-- what was added first and what was added then
pub Adds-append : (old mid new : Option (List ℕ)) (xs ys : List ℕ) → Adds old mid xs → Adds mid new ys → Adds old new (xs ++ ys)
Adds-append old mid None xs ys p q = tt
Adds-append old None (Some c) xs ys p q = absurd q
Adds-append None (Some b) (Some c) xs ys p q = absurd p
Adds-append (Some a) (Some b) (Some c) xs ys p q = q ∙ ap (λ s. s ++ ys) p ∙ append_assoc a xs ys

-- a front of a text, and then the next bytes of the slice from there on
pub Adds-take : (old mid new : Option (List ℕ)) (text : List ℕ) (at n : ℕ) → Adds old mid (take at text) → Adds mid new (take n (take (length text - at) (drop at text))) → Adds old new (take (at + n) text)
Adds-take old mid new text at n p q =
    let next = subst (λ s. Adds mid new (take n s)) (take_rest text at) q in
    subst (λ s. Adds old new s) (sym (take-add at n text)) (Adds-append old mid new _ _ p next)

-- a front of a text, and then nothing
pub AddsFront-cut : (old mid new : Option (List ℕ)) (text : List ℕ) (at : ℕ) → Adds old mid (take at text) → Adds mid new [] → AddsFront old new text
AddsFront-cut old mid new text at p q = record {
  front = take at text ++ [];
  rest = drop at text;
  splits = grind (arith, common_steps, take-append-drop at text);
  added = Adds-append old mid new (take at text) [] p q;
}

-- nothing was consumed where nothing happened
pub Consumes-none : (o : Option (List ℕ)) → Consumes o o []
Consumes-none None = tt
Consumes-none (Some xs) = refl

-- what was consumed first and what was consumed then
pub Consumes-append : (old mid new : Option (List ℕ)) (xs ys : List ℕ) → Consumes old mid xs → Consumes mid new ys → Consumes old new (xs ++ ys)
Consumes-append None mid new xs ys p q = tt
Consumes-append (Some a) None new xs ys p q = absurd p
Consumes-append (Some a) (Some b) None xs ys p q = absurd q
Consumes-append (Some a) (Some b) (Some c) xs ys p q = p ∙ ap (λ s. xs ++ s) q ∙ sym (append_assoc xs ys c)

-- what was consumed first and what was consumed then are not too many
pub ConsumesAtMost-append : (old mid new : Option (List ℕ)) (xs ys : List ℕ) (most : ℕ) → Consumes old mid xs → Consumes mid new ys → length xs + length ys ≤ most → ConsumesAtMost old new most
ConsumesAtMost-append old mid new xs ys most p q h = record {
  bytes = xs ++ ys;
  within = omega (arith, length-append xs ys);
  consumed = Consumes-append old mid new xs ys p q;
}
