-- The range operator, and ends in order.
--   least, greatest   the least row and column of two cells, the greatest ones; the sheet is that of the first
--   range_between           the range of two ends on a sheet
--   span_of           the least range that holds both sides; the left side's error first, then the right one's; #REF! where a
--                     side is no range, or the two lie on two sheets
use Rattle.std.specs.Prelude.{◌==◌, if◌then◌else◌}
use Rattle.std.specs.Int.{int_min, int_max}
use Rattle.value_core.specs.declared.error.Error.TheVariants.{REF}
use Rattle.value_core.specs.declared.position.CellReferenceIndex.{CellReferenceIndex}
use Rattle.grid_core.specs.declared.calc_result.CalcResult.{CalcResult}
use Rattle.grid_core.specs.declared.calc_result.CalcResult.TheVariants as calc
use Rattle.result_core.specs.Finding.{wrong}

abbrev pub least : CellReferenceIndex → CellReferenceIndex → CellReferenceIndex
least a b = record { sheet = a.sheet; row = int_min a.row b.row; column = int_min a.column b.column }

abbrev pub greatest : CellReferenceIndex → CellReferenceIndex → CellReferenceIndex
greatest a b = record { sheet = a.sheet; row = int_max a.row b.row; column = int_max a.column b.column }

abbrev pub range_between : CellReferenceIndex → CellReferenceIndex → CalcResult
range_between a b = calc.Range (least a b) (greatest a b)

abbrev pub span_of : CellReferenceIndex → CalcResult → CalcResult → CalcResult
span_of cell (calc.Error e origin) right = calc.Error e origin
span_of cell left (calc.Error e origin) = calc.Error e origin
span_of cell (calc.Range a b) (calc.Range c d) = if a.sheet == c.sheet then calc.Range (least a c) (greatest b d) else wrong cell REF
span_of cell left right = wrong cell REF

-- whether a result is no error
abbrev pub IsNoError : CalcResult → Type 0
IsNoError (calc.Error e origin) = ⊥
IsNoError other = Unit {0}
