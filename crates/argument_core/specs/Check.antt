-- Checks, one after the other: the first one that fails ends the call with its error.
--   after       a check, and what comes after it where it is passed
--   put_before  a value before others, where all are passed
--   each        a check of each of some values, in their order
--   Gives       what a call answers is what is wanted, where there was memory
--   GivesAs     the same of an answer that is seen in another way
use Rattle.std.specs.Prelude.{◌≡◌, List, [], ◌∷◌, Result, Ok, Err, ⊤}
use Rattle.value_core.specs.declared.error.Error.{Error}
use Rattle.argument_core.specs.declared.stop.Stop.{Stop}
use Rattle.argument_core.specs.declared.stop.Stop.TheVariants.{Wrong, Memory}

abbrev pub after : {X Y : Type 0} → Result X Error → (X → Result Y Error) → Result Y Error
after (Ok x) f = f x
after (Err e) f = Err e

abbrev pub put_before : {X : Type 0} → Result X Error → Result (List X) Error → Result (List X) Error
put_before (Ok x) (Ok xs) = Ok (x ∷ xs)
put_before (Ok x) (Err e) = Err e
put_before (Err e) rest = Err e

abbrev pub each : {X Y : Type 0} → (X → Result Y Error) → List X → Result (List Y) Error
each f [] = Ok []
each f (x ∷ xs) = put_before (f x) (each f xs)

abbrev pub GivesAs : {X Y : Type 0} → (X → Y) → Result X Stop → Result Y Error → Type 0
GivesAs view (Ok x) wanted = wanted ≡ Ok (view x)
GivesAs view (Err (Wrong e)) wanted = wanted ≡ Err e
GivesAs view (Err Memory) wanted = ⊤

abbrev pub Gives : {X : Type 0} → Result X Stop → Result X Error → Type 0
Gives (Ok x) wanted = wanted ≡ Ok x
Gives (Err (Wrong e)) wanted = wanted ≡ Err e
Gives (Err Memory) wanted = ⊤
