-- TRIMRANGE.
--   is_blank     an element is a blank
--   blank_lines  of each line, whether it is blank throughout
--   span_within  the lines that are left: without leading ones from the first one that isn't blank, or past the last line where all are; without trailing ones to
--                the last one that isn't, or to none where all are
--   span_of      the same of a rectangle
--   crossing_or_reference   the rows and columns of two spans; `#REF!` where one is empty
--   trimmed, trim_of   leading lines are the first kind that a mode leaves out, trailing ones the second; `#VALUE!` for a mode that there isn't
use Rattle.std.specs.Prelude.{ℤ, ◌-◌, Bool, true, false, ◌&&◌, if◌then◌else◌, Option, Some, None, List, length, nat_lt}
use Rattle.std.specs.List.{list_all, prefix_len, suffix_len}
use Rattle.value_core.specs.declared.array.ArrayNode.{ArrayNode}
use Rattle.value_core.specs.declared.array.ArrayNode.TheVariants.{Number, Boolean, String, Error as error, Empty}
use Rattle.value_core.specs.declared.error.Error.TheVariants.{REF, VALUE}
use Rattle.value_core.specs.declared.position.CellReferenceIndex.{CellReferenceIndex}
use Rattle.rectangle_core.specs.Rectangle.{tabulate}
use Rattle.grid_core.specs.declared.calc_result.CalcResult.{CalcResult}
use Rattle.grid_core.specs.declared.calc_result.CalcResult.TheVariants.{Array, Error}
use Rattle.kept_ops.specs.Lines.{line_count, one_line}
use Rattle.kept_ops.specs.Mode.{mode_of}
use Rattle.kept_ops.specs.Part.{crossing}
use Rattle.kept_ops.specs.declared.modes.Mode.{Mode}
use Rattle.kept_ops.specs.declared.part.Span.{Span}

abbrev pub is_blank : ArrayNode → Bool
is_blank Empty = true
is_blank (Number n) = false
is_blank (Boolean b) = false
is_blank (String text) = false
is_blank (error e) = false

abbrev pub itself : Bool → Bool
itself blank = blank

abbrev pub blank_lines : Bool → List (List ArrayNode) → List Bool
blank_lines by_column rows = tabulate (line_count by_column rows) (λ i. list_all is_blank (one_line by_column rows i))

abbrev pub span_within : Mode → List Bool → Span
span_within mode blanks = record {
  start = if mode.first then prefix_len itself blanks else 0;
  stop = if mode.second then length blanks - suffix_len itself blanks else length blanks;
}

abbrev pub span_of : Bool → Mode → List (List ArrayNode) → Span
span_of by_column mode rows = span_within mode (blank_lines by_column rows)

abbrev pub crossing_or_reference : CellReferenceIndex → List (List ArrayNode) → Span → Span → CalcResult
crossing_or_reference cell rows down right =
    if nat_lt down.start down.stop && nat_lt right.start right.stop then Array (crossing rows down right) else Error REF cell

abbrev pub trimmed : CellReferenceIndex → Option Mode → Option Mode → List (List ArrayNode) → CalcResult
trimmed cell (Some down) (Some right) rows = crossing_or_reference cell rows (span_of false down rows) (span_of true right rows)
trimmed cell (Some down) None rows = Error VALUE cell
trimmed cell None right rows = Error VALUE cell

abbrev pub trim_of : CellReferenceIndex → ℤ → ℤ → List (List ArrayNode) → CalcResult
trim_of cell rows_mode columns_mode rows = trimmed cell (mode_of rows_mode) (mode_of columns_mode) rows
