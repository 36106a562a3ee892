use Rattle.std.proofs.Common.{◌≡◌, ◌-◌, map, ap, arith}
use Rattle.tree_core.specs.Formula.{tree_of}
use Rattle.tree_core.specs.Tree.{forest}
use Rattle.nest_core.specs.Plain.{are_arguments}
use Rattle.nest_core.proofs.plain.+plain.Goals as goal

pub are_arguments-loop-index-init : goal.are_arguments-loop-index-init
are_arguments-loop-index-init t c = ap (are_arguments (forest (map tree_of c.args.nodes.now))) (let all : c.args.arrays - 0 ≡ c.args.arrays = omega arith in all)
