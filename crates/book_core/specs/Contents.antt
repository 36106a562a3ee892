-- What a book holds, apart from the program.
--   Contents     the value of each cell, its number format and the text of its formula, where it has one, and the names of the sheets
--   no_cells     of a book with these sheets in which no cell was set; no_contents, of one without sheets
--   line_count   how many rows there are from the first to the last, or columns: at least one
--   cell_in      a cell of a range, by its place there, from 0
--   read         a range as a rectangle
--   same_cell    whether two cells are one
--   IsAddedSheet   a book with one more sheet, behind the others
--   IsSetCell      a book in which a cell holds this, and every other cell what it held
use Rattle.std.specs.Prelude.{◌≡◌, ℕ, ℤ, pos, ◌+ℤ◌, ◌+◌, ◌++◌, Bool, ◌&&◌, if◌then◌else◌, List, [], ◌∷◌, Option, None}
use Rattle.std.specs.Int.{int_gap}
use Rattle.std.specs.Ordering.{is_eq, nat_cmp, int_eq}
use Rattle.value_core.specs.declared.array.ArrayNode.{ArrayNode}
use Rattle.value_core.specs.declared.array.ArrayNode.TheVariants.{Empty}
use Rattle.value_core.specs.declared.position.CellReferenceIndex.{CellReferenceIndex}
use Rattle.rectangle_core.specs.Rectangle.{rectangle}

pub record Contents : Type 0 where
  pub value : CellReferenceIndex → ArrayNode
  pub num_fmt : CellReferenceIndex → Option (List ℕ)
  pub formula : CellReferenceIndex → Option (List ℕ)
  pub sheets : List (List ℕ)

abbrev pub no_cells : List (List ℕ) → Contents
no_cells sheets = record { value = λ cell. Empty; num_fmt = λ cell. None; formula = λ cell. None; sheets = sheets }

abbrev pub no_contents : Contents
no_contents = no_cells []

abbrev pub line_count : ℤ → ℤ → ℕ
line_count first last = int_gap first last + 1

abbrev pub cell_in : CellReferenceIndex → ℕ → ℕ → CellReferenceIndex
cell_in left i j = record { sheet = left.sheet; row = left.row +ℤ pos i; column = left.column +ℤ pos j }

abbrev pub read : Contents → CellReferenceIndex → CellReferenceIndex → List (List ArrayNode)
read book left right = rectangle (line_count left.row right.row) (line_count left.column right.column) (λ i j. book.value (cell_in left i j))

abbrev pub same_cell : CellReferenceIndex → CellReferenceIndex → Bool
same_cell a b = is_eq (nat_cmp a.sheet b.sheet) && int_eq a.row b.row && int_eq a.column b.column

pub record IsAddedSheet (old new : Contents) (name : List ℕ) : Type 0 where
  pub sheets : new.sheets ≡ old.sheets ++ name ∷ []
  pub values : new.value ≡ old.value
  pub formats : new.num_fmt ≡ old.num_fmt
  pub formulas : new.formula ≡ old.formula

pub record IsSetCell (old new : Contents) (cell : CellReferenceIndex) (value : ArrayNode) (num_fmt formula : Option (List ℕ)) : Type 0 where
  pub values : (other : CellReferenceIndex) → new.value other ≡ (if same_cell cell other then value else old.value other)
  pub formats : (other : CellReferenceIndex) → new.num_fmt other ≡ (if same_cell cell other then num_fmt else old.num_fmt other)
  pub formulas : (other : CellReferenceIndex) → new.formula other ≡ (if same_cell cell other then formula else old.formula other)
  pub sheets : new.sheets ≡ old.sheets
