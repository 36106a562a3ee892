-- The value of an `@`.
--   first_of      the first element of a rectangle
--   intersection_found   what an `@` makes of what stands under it, taken with reference: of a range the cell that is found in it, else
--                 #REF!; of an array its first element; one value stays
--   under_run     what a run of `@`s makes of it
use Rattle.std.specs.Prelude.{Bool, List, [], ◌∷◌, Option, Some, None}
use Rattle.value_core.specs.declared.array.ArrayNode.{ArrayNode}
use Rattle.value_core.specs.declared.error.Error.TheVariants.{REF}
use Rattle.value_core.specs.declared.position.CellReferenceIndex.{CellReferenceIndex}
use Rattle.rectangle_core.specs.Rectangle.{element_at, or_blank}
use Rattle.book_core.specs.Meeting.{meets}
use Rattle.grid_core.specs.declared.calc_result.CalcResult.{CalcResult}
use Rattle.grid_core.specs.declared.calc_result.CalcResult.TheVariants as calc
use Rattle.result_core.specs.Finding.{wrong, result_of, with_reference}
use Rattle.result_core.specs.declared.found.Found.{Found}
use Rattle.result_core.specs.declared.found.Found.TheVariants.{Cell, Same}

abbrev pub first_of : List (List ArrayNode) → ArrayNode
first_of rows = or_blank (element_at rows 0 0)

abbrev pub met : CellReferenceIndex → Option CellReferenceIndex → Found
met cell (Some at) = Cell at
met cell None = Same (wrong cell REF)

abbrev pub intersection_found : CellReferenceIndex → CalcResult → Found
intersection_found cell (calc.Range left right) = met cell (meets cell left right)
intersection_found cell (calc.Array rows) = Same (result_of cell (first_of rows))
intersection_found cell other = Same other

abbrev pub under_run : CellReferenceIndex → List Bool → Found → Found
under_run cell [] found = found
under_run cell (flag ∷ run) found = intersection_found cell (with_reference (under_run cell run found))
