-- Which bytes went through a device that tells them. `old` and `new` are what it tells before and after: Some of its bytes,
-- or None where it doesn't say.
--
-- Consumes old new bytes         a source's bytes were `bytes` and then what it has now
-- IsAtEnd left                   a source has no byte left
-- ConsumesCount old new n        some list of exactly n bytes was consumed
-- ConsumesAtMost old new n       some list of at most n bytes was consumed
-- Adds old new bytes             a sink's bytes are what it had and then `bytes`; it may stop telling, and never begins
-- AddsFront old new text         some front of the text was added, and the rest was not
use Rattle.std.specs.Prelude.{◌≡◌, ℕ, ◌≤◌, List, [], ◌++◌, length, Option, IfSome, IsSomeAnd}

abbrev pub Consumes : Option (List ℕ) → Option (List ℕ) → List ℕ → Type 0
Consumes old new bytes = IfSome old (λ before. IsSomeAnd new (λ after. before ≡ bytes ++ after))

abbrev pub IsAtEnd : Option (List ℕ) → Type 0
IsAtEnd left = IfSome left (λ bytes. bytes ≡ [])

pub record ConsumesCount (old new : Option (List ℕ)) (n : ℕ) : Type 0 where
  pub bytes : List ℕ
  pub counted : length bytes ≡ n
  pub consumed : Consumes old new bytes

pub record ConsumesAtMost (old new : Option (List ℕ)) (n : ℕ) : Type 0 where
  pub bytes : List ℕ
  pub within : length bytes ≤ n
  pub consumed : Consumes old new bytes

abbrev pub Adds : Option (List ℕ) → Option (List ℕ) → List ℕ → Type 0
Adds old new bytes = IfSome new (λ after. IsSomeAnd old (λ before. after ≡ before ++ bytes))

pub record AddsFront (old new : Option (List ℕ)) (text : List ℕ) : Type 0 where
  pub front : List ℕ
  pub rest : List ℕ
  pub splits : text ≡ front ++ rest
  pub added : Adds old new front
