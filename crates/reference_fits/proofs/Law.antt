-- The law, function by function.
use Rattle.call_core.specs.declared.function.Function.TheVariants.{Index, Offset, Choose, Row, Rows, Column, Columns, Areas, Formulatext}
use Rattle.kind_table.specs.declared.static_result.StaticResult.TheVariants.{Scalar}
use Rattle.reference_functions.specs.Indexing.{index_call}
use Rattle.reference_fits.specs.AnswersFit.{ReferencesFit}
use Rattle.reference_fits.proofs.Sizes.{unknown-fits}
use Rattle.reference_fits.proofs.Numbers.{areas-fit, column-fits, columns-fit, formula-text-fits, row-fits, rows-fit}
use Rattle.reference_fits.proofs.Choices.{choose-fits}
use Rattle.reference_fits.proofs.Offsets.{offset-fits}

pub references-fit : ReferencesFit
references-fit book cell Index shows ss args known = unknown-fits book (index_call book cell args)
references-fit book cell Offset shows ss args known = offset-fits book cell shows ss args known.shown
references-fit book cell Choose shows ss args known = choose-fits book cell ss args known.well_formed known.fit
references-fit book cell Row shows ss args known = row-fits book cell shows ss args known.fit known.shown
references-fit book cell Rows shows ss args known = rows-fit book cell Scalar args
references-fit book cell Column shows ss args known = column-fits book cell shows ss args known.fit known.shown
references-fit book cell Columns shows ss args known = columns-fit book cell Scalar args
references-fit book cell Areas shows ss args known = areas-fit book cell Scalar args
references-fit book cell Formulatext shows ss args known = formula-text-fits book cell Scalar args
references-fit book cell other shows ss args known = tt
