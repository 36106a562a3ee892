use Rattle.tree_core.specs.Formula.{tree_of}
use Rattle.eval_core.specs.Setting.{setting}
use Rattle.answer_core.proofs.Fits.{value-fits}
use Rattle.answer_core.proofs.answer.answer_of.Goals as goal

pub returns-clause-answers : goal.returns-clause-answers
returns-clause-answers g c =
    let written = c.in_ok-written.ensures.made in
    let meant = c.in_ok-meant.ensures.made in
    record {
      import = written.import;
      export = written.export;
      given_shape = written.given_shape;
      imported_shape = written.imported_shape;
      spilled = meant.spilled_is;
      legacy = meant.legacy_is;
      unit = meant.unit_is;
    }

pub returns-clause-fits : goal.returns-clause-fits
returns-clause-fits g c =
    let lawful = g.met.K.Kinds.lawful c.args.kinds.now in
    let here = setting (g.K.Kinds.table c.args.kinds.now) (g.B.Book.contents c.args.book.now) c.args.limit c.args.cell in
    let written = c.in_ok-written.ensures.made in
    let meant = c.in_ok-meant.ensures.made in
    record {
      spilled_is = meant.spilled_rectangle;
      legacy_is = meant.legacy_rectangle;
      spilled_fits = value-fits here (tree_of c.args.node.now) _ _ meant.spilled_is written.given_shape lawful;
      legacy_fits = value-fits here (tree_of c.in_ok-written.written.imported) _ _ meant.legacy_is written.imported_shape lawful;
    }
