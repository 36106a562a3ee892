use Rattle.std.proofs.Common.{length, ◌-◌}
use Rattle.mark_core.proofs.way.+is_way.Given as goal

abbrev pub decreases-is_way : goal.decreases-is_way
decreases-is_way g l = length l.path.now - l.at
