use Rattle.std.proofs.Common.{◌∙◌, arith}
use Rattle.import_core.proofs.Builds.{starts}
use Rattle.import_core.proofs.import.import_of.Goals as goal

pub build-requires : goal.build-requires
build-requires g c = record {
  start = omega arith;
  stands = starts _ _ _ (c.as_slice.ensures.value ∙ c.in_ok-decide.ensures.decided) c.new-decided.ensures.items;
}
