-- Values that are checked one by one, those so far before what is left.
--   joined       values before others, where all of these are passed
--   joined-more  one more
--   joined-none  no more
use Rattle.std.proofs.Common.{◌≡◌, List, [], ◌∷◌, ◌++◌, Result, Ok, Err, refl, sym, ap, append_assoc, append-nil}
use Rattle.value_core.specs.declared.error.Error.{Error}
use Rattle.argument_core.specs.Check.{each, put_before}

abbrev pub joined : {X : Type 0} → List X → Result (List X) Error → Result (List X) Error
joined front (Ok rest) = Ok (front ++ rest)
joined front (Err e) = Err e

pub joined-more : {X : Type 0} (front : List X) (x : X) (rest : Result (List X) Error) → joined (front ++ x ∷ []) rest ≡ joined front (put_before (Ok x) rest)
joined-more front x (Ok rest) = ap Ok (append_assoc front (x ∷ []) rest)
joined-more front x (Err e) = refl

pub joined-none : {X : Type 0} (front : List X) → joined front (Ok []) ≡ Ok front
joined-none front = ap Ok (append-nil front)

pub ruleset eaches = (joined-more, joined-none)
