use Rattle.std.proofs.Common.{false, refl}
use Rattle.key_core.specs.Kept.{first_positions}
use Rattle.kept_ops.specs.Unique.{line_keys}
use Rattle.kept_ops.proofs.Again.{kept-again}
use Rattle.kept_ops.proofs.laws.what_is_unique_stays.Goals as goal

pub returns : goal.returns
returns c = λ cell rows made ok h. kept-again cell rows made ok (first_positions (line_keys false rows)) refl h
