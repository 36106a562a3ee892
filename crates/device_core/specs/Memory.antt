-- What the devices in memory are seen as.
--
-- SourceState   the bytes left, the most bytes that one call gives, and the calls
-- SinkState     what is stored, the most bytes that one call takes, and the calls
use Rattle.std.specs.Prelude.{ℕ, List}
use Rattle.device_core.specs.Calls.{Calls}
use Rattle.device_core.specs.Store.{Store}

pub record SourceState : Type 0 where
  pub left : List ℕ
  pub most : ℕ
  pub calls : Calls

pub record SinkState : Type 0 where
  pub store : Store
  pub most : ℕ
  pub calls : Calls
