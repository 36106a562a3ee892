-- The arguments so far read no cell.
use Rattle.std.proofs.Common.{◌≡◌, IsTrue}
use Rattle.std.specs.List.{list_all}
use Rattle.nest_core.specs.Built.{is_constant}
use Rattle.nest_core.proofs.tests.args_in.Given as goal

abbrev pub invariant-loop-arg : goal.invariant-loop-arg
invariant-loop-arg l = IsTrue (list_all is_constant l.args.items)
