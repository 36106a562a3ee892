-- The elements by columns are those of the transposed by rows.
use Rattle.std.proofs.Common.{◌≡◌, Bool, true, false, Option, Some, None, List, refl, sym, ap}
use Rattle.std.specs.List.{filter, flat_map}
use Rattle.value_core.specs.declared.array.ArrayNode.{ArrayNode}
use Rattle.value_core.specs.declared.position.CellReferenceIndex.{CellReferenceIndex}
use Rattle.rectangle_core.specs.Rectangle.{element_at, height, or_blank, width, IsRectangle}
use Rattle.rectangle_core.proofs.Rectangles.{rectangle-is, whole}
use Rattle.kept_ops.specs.declared.modes.Mode.{Mode}
use Rattle.kept_ops.specs.Flatten.{flattened, stays, strip_or_calc}
use Rattle.kept_ops.specs.Lines.{scan}
use Rattle.kept_ops.specs.Transposed.{transposed}

scan-turned : (rows : List (List ArrayNode)) → IsRectangle rows → scan true rows ≡ scan false (transposed rows)
scan-turned rows is =
    ap (flat_map (λ line. line)) (sym (whole (transposed rows) (rectangle-is (width rows) (height rows) (λ i j. or_blank (element_at rows j i)) is.some_column is.some_row)))

pub flattened-turned : (cell : CellReferenceIndex) (ignore : Option Mode) (as_column : Bool) (rows : List (List ArrayNode)) → IsRectangle rows →
    flattened cell ignore true as_column rows ≡ flattened cell ignore false as_column (transposed rows)
flattened-turned cell (Some ignore) as_column rows is = ap (λ elements. strip_or_calc cell as_column (filter (stays ignore) elements)) (scan-turned rows is)
flattened-turned cell None as_column rows is = refl
