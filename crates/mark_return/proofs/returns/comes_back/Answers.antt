use Rattle.tree_core.specs.Formula.{tree_of}
use Rattle.mark_return.proofs.Tells.{returns-tells}
use Rattle.mark_return.proofs.returns.comes_back.Goals as goal

-- src/returns.rt:22:1
pub returns : goal.returns
returns g c =
    returns-tells c.args.rule (g.K.Kinds.table c.args.kinds.now) (g.met.K.Kinds.lawful c.args.kinds.now).monotone c.args.wanted (tree_of c.args.import.now) c.args.mark.now c.returns.result
    c.requires.told c.returns.ensures
