-- UNIQUE.
--   line_keys      the key of each line
--   lines_or_calc  the lines of some numbers; `#CALC!` where there is none
--   unique_of      the lines whose key no earlier one has, or with once no other one has
use Rattle.std.specs.Prelude.{ℕ, Bool, if◌then◌else◌, List, [], ◌∷◌}
use Rattle.value_core.specs.declared.array.ArrayNode.{ArrayNode}
use Rattle.value_core.specs.declared.error.Error.TheVariants.{CALC}
use Rattle.value_core.specs.declared.position.CellReferenceIndex.{CellReferenceIndex}
use Rattle.rectangle_core.specs.Rectangle.{tabulate}
use Rattle.grid_core.specs.declared.calc_result.CalcResult.{CalcResult}
use Rattle.grid_core.specs.declared.calc_result.CalcResult.TheVariants.{Array, Error}
use Rattle.key_core.specs.declared.key.CellKey.{CellKey}
use Rattle.key_core.specs.Key.{row_key_of}
use Rattle.key_core.specs.Kept.{kept_positions}
use Rattle.kept_ops.specs.Lines.{line_count, one_line}
use Rattle.kept_ops.specs.Part.{columns_at, rows_at}

abbrev pub line_keys : Bool → List (List ArrayNode) → List (List CellKey)
line_keys by_column rows = tabulate (line_count by_column rows) (λ i. row_key_of (one_line by_column rows i))

abbrev pub lines_or_calc : CellReferenceIndex → Bool → List (List ArrayNode) → List ℕ → CalcResult
lines_or_calc cell by_column rows [] = Error CALC cell
lines_or_calc cell by_column rows (i ∷ is) = Array (if by_column then columns_at rows (i ∷ is) else rows_at rows (i ∷ is))

abbrev pub unique_of : CellReferenceIndex → Bool → Bool → List (List ArrayNode) → CalcResult
unique_of cell by_column exactly_once rows = lines_or_calc cell by_column rows (kept_positions exactly_once (line_keys by_column rows))
