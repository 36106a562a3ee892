use Rattle.std.proofs.Common.{◌∙◌}
use Rattle.tree_core.specs.Formula.{tree_of}
use Rattle.intersect.proofs.Exports.{exports-by, exports_counted, some_at, twice_counted}
use Rattle.intersect.proofs.export.exported.Goals as goal

pub returns-in_err-export-clause-counted : goal.returns-in_err-export-clause-counted
returns-in_err-export-clause-counted g c =
    exports_counted c.args.rule (g.K.Kinds.table c.args.kinds.now) c.args.add (tree_of c.args.node.now) c.begin.new.mark c.as_slice.result.now _ _ _
    (some_at _ _ c.at_count.ensures.exact c.if-at_count-eq0.false) c.begin.ensures.first (c.as_slice.ensures.value ∙ c.in_ok-places.ensures)
    (twice_counted _ _ _ _ c.in_ok-mark.ensures.counted c.begin.ensures.counted) c.drop_what_can.ensures.counted

pub returns-clause-ok : goal.returns-clause-ok
returns-clause-ok g c =
    exports-by c.args.rule (g.K.Kinds.table c.args.kinds.now) (g.met.K.Kinds.lawful c.args.kinds.now).monotone c.args.add (tree_of c.args.node.now)
    c.begin.new.mark c.drop_what_can.new.mark c.as_slice.result.now (tree_of c.in_ok-export.export)
    c.begin.ensures.first (c.as_slice.ensures.value ∙ c.in_ok-places.ensures) c.drop_what_can.ensures.settled c.in_ok-export.ensures

pub returns-clause-counted : goal.returns-clause-counted
returns-clause-counted g c =
    exports_counted c.args.rule (g.K.Kinds.table c.args.kinds.now) c.args.add (tree_of c.args.node.now) c.begin.new.mark c.as_slice.result.now _ _ _
    (some_at _ _ c.at_count.ensures.exact c.if-at_count-eq0.false) c.begin.ensures.first (c.as_slice.ensures.value ∙ c.in_ok-places.ensures)
    (twice_counted _ _ _ _ c.in_ok-mark.ensures.counted c.begin.ensures.counted) c.drop_what_can.ensures.counted
