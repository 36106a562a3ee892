use Rattle.std.proofs.Common.{◌≤◌, arith}
use Rattle.tree_core.specs.Count.{calls_of}
use Rattle.tree_core.specs.Formula.{tree_of}
use Rattle.mark_core.specs.Mark.{calls_in}
use Rattle.intersect.proofs.Exports.{calls_of-bare, calls_of-whole}
use Rattle.intersect.proofs.export.begin.Goals as goal

pub returns-then-not-back-clause-counted : goal.returns-then-not-back-clause-counted
returns-then-not-back-clause-counted g c =
    let table = g.K.Kinds.table c.args.kinds.now in
    let import = tree_of c.args.import.now in
    let whole : calls_in c.args.mark.now ≤ calls_of import = calls_of-whole c.args.rule table c.args.add import c.args.mark.now c.requires.told in
    let bare : calls_in c.leave_out_put.new.mark ≤ calls_of import =
    calls_of-bare c.args.rule table c.args.add import c.leave_out_put.new.mark (c.leave_out_put.ensures.told c.args.rule c.requires.told) in
    omega (arith, whole, bare, c.leave_out_put.ensures.counted, c.put_again.ensures.counted)

pub returns-else-not-back-clause-counted : goal.returns-else-not-back-clause-counted
returns-else-not-back-clause-counted g c =
    let table = g.K.Kinds.table c.args.kinds.now in
    let import = tree_of c.args.import.now in
    let whole : calls_in c.args.mark.now ≤ calls_of import = calls_of-whole c.args.rule table c.args.add import c.args.mark.now c.requires.told in
    omega (arith, whole, c.leave_out_put.ensures.counted)
