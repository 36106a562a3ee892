-- What the unit of a formula rests on.
--   asked_here            the cells whose number formats a bare node asks for: that of a reference, and that of the first written end of
--                         a range, where they lie on the sheet
--   asked_cells           the cells that a formula asks for, and asked_by_all, each of some formulas
--   UnitsRestOnFormats    over two books whose formats are the same at those cells a formula has one unit, whatever else they hold
use Rattle.std.specs.Prelude.{◌≡◌, ℕ, List, [], ◌∷◌, ◌++◌, All, Option, Some, None}
use Rattle.value_core.specs.declared.position.CellReferenceIndex.{CellReferenceIndex}
use Rattle.kind_table.specs.Table.{Table}
use Rattle.book_core.specs.Contents.{Contents}
use Rattle.tree_core.specs.Label.{reference, range, Label, leaf}
use Rattle.tree_core.specs.Tree.{Tree, tree, Trees, none, more}
use Rattle.corner_core.specs.End.{end_at}
use Rattle.units_core.specs.Unit.{setting, unit_of}
use Rattle.units_core.specs.declared.formats.FirstPart.{FirstPart}
use Rattle.units_core.specs.declared.locale.Locale.{Locale}

abbrev pub listed : Option CellReferenceIndex → List CellReferenceIndex
listed (Some at) = at ∷ []
listed None = []

abbrev pub asked_here : CellReferenceIndex → Label → List CellReferenceIndex
asked_here cell (leaf (reference sheet corner)) = listed (end_at cell sheet.index corner)
asked_here cell (leaf (range sheet left right)) = listed (end_at cell sheet.index left)
asked_here cell other = []

abbrev mutual
  pub asked_cells : CellReferenceIndex → Tree → List CellReferenceIndex
  asked_cells cell (tree run label ts) = asked_here cell label ++ asked_by_all cell ts

  pub asked_by_all : CellReferenceIndex → Trees → List CellReferenceIndex
  asked_by_all cell none = []
  asked_by_all cell (more t ts) = asked_cells cell t ++ asked_by_all cell ts

abbrev pub UnitsRestOnFormats : Type 0
UnitsRestOnFormats =
    (table : Table) (first second : Contents) (first_part : List ℕ → FirstPart) (locale : Locale) (cell : CellReferenceIndex) (formula : Tree)
    → All (λ at. first.num_fmt at ≡ second.num_fmt at) (asked_cells cell formula)
    → unit_of (setting table first.num_fmt first_part locale cell) formula ≡ unit_of (setting table second.num_fmt first_part locale cell) formula
