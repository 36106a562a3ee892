-- What is known of the arguments of a call before it is evaluated, and what of that is so of what they come to.
--   IsRangeShown   a range has one row where it is known to stay in one, and one column likewise
--   IsOneCell      a range has one cell
--   ShownIs        what an argument shows of itself is so of what it came to
--   AreKnown       the shapes of the arguments are well formed, their values fit them, and they are what they show
use Rattle.std.specs.Prelude.{◌≡◌, pos, Bool, true, List, map, All, ⊤}
use Rattle.std.specs.List.{AllZip}
use Rattle.value_core.specs.declared.position.CellReferenceIndex.{CellReferenceIndex}
use Rattle.book_core.specs.Contents.{Contents, line_count}
use Rattle.grid_core.specs.declared.calc_result.CalcResult.{CalcResult}
use Rattle.grid_core.specs.declared.calc_result.CalcResult.TheVariants as calc
use Rattle.kind_table.specs.Fit.{Fits}
use Rattle.kind_table.specs.Shape.{IsWellFormed}
use Rattle.kind_table.specs.declared.shown.Shown.{Shown}
use Rattle.kind_table.specs.declared.shown.Shown.TheVariants as shown
use Rattle.kind_table.specs.declared.static_result.StaticResult.{StaticResult}
use Rattle.result_core.specs.Finding.{value_found, with_reference}
use Rattle.result_core.specs.declared.found.Found.{Found}
use Rattle.result_core.specs.declared.found.Found.TheVariants.{Same}

abbrev pub IsRangeShown : Bool → Bool → CalcResult → Type 0
IsRangeShown row column (calc.Range left right) =
    (row ≡ true → line_count left.row right.row ≡ 1) × (column ≡ true → line_count left.column right.column ≡ 1)
IsRangeShown row column other = ⊤

abbrev pub IsOneCell : CalcResult → Type 0
IsOneCell (calc.Range left right) = left ≡ right
IsOneCell other = ⊤

abbrev pub ShownIs : Shown → Found → Type 0
ShownIs (shown.Range row column) found = IsRangeShown row column (with_reference found)
ShownIs shown.Reference found = IsOneCell (with_reference found)
ShownIs shown.One found = found ≡ Same (calc.Number (pos 1000000))
ShownIs shown.Nothing found = ⊤

pub record AreKnown (book : Contents) (cell : CellReferenceIndex) (shows : List Shown) (shapes : List StaticResult) (args : List Found) : Type 0 where
  pub well_formed : All IsWellFormed shapes
  pub fit : AllZip Fits shapes (map (value_found book cell) args)
  pub shown : AllZip ShownIs shows args
