-- The unit of a formula over two books.
--   units-rest   it is one over both, where the formats of the cells that the formula asks for are
use Rattle.std.proofs.Common.{◌≡◌, ℕ, List, [], ◌∷◌, ◌++◌, Option, Some, None, option_and_then, refl, ap, ap₂, ◌∙◌}
use Rattle.std.specs.List.{AllByRecursion}
use Rattle.std.proofs.lemmas.List.Elements.{recursion_from_All}
use Rattle.value_core.specs.declared.position.CellReferenceIndex.{CellReferenceIndex}
use Rattle.call_core.specs.declared.function.Function.TheVariants.{Other}
use Rattle.kind_table.specs.Table.{Table}
use Rattle.book_core.specs.Contents.{Contents}
use Rattle.tree_core.specs.Label.{reference, range, Label, leaf, call}
use Rattle.tree_core.specs.Tree.{Tree, tree, Trees, none, more}
use Rattle.corner_core.specs.End.{end_at}
use Rattle.units_core.specs.Part.{format_unit}
use Rattle.units_core.specs.Unit.{Setting, setting, unit_at, node_unit, unit_of, units_of}
use Rattle.units_core.specs.Law.{listed, asked_here, asked_cells, asked_by_all, UnitsRestOnFormats}
use Rattle.units_core.specs.declared.formats.FirstPart.{FirstPart}
use Rattle.units_core.specs.declared.locale.Locale.{Locale}
use Rattle.units_core.specs.declared.units.Units.{Units}

front : (P : CellReferenceIndex → Type 0) (xs ys : List CellReferenceIndex) → AllByRecursion P (xs ++ ys) → AllByRecursion P xs
front P [] ys h = tt
front P (x ∷ xs) ys h = (h.0, front P xs ys h.1)

back : (P : CellReferenceIndex → Type 0) (xs ys : List CellReferenceIndex) → AllByRecursion P (xs ++ ys) → AllByRecursion P ys
back P [] ys h = h
back P (x ∷ xs) ys h = back P xs ys h.1

module _ (table : Table) (first second : Contents) (first_part : List ℕ → FirstPart) (locale : Locale) (cell : CellReferenceIndex) where
  abbrev Same : CellReferenceIndex → Type 0
  Same at = first.num_fmt at ≡ second.num_fmt at

  abbrev here : Setting
  here = setting table first.num_fmt first_part locale cell

  abbrev there : Setting
  there = setting table second.num_fmt first_part locale cell

  rest-at : (at : Option CellReferenceIndex) → AllByRecursion Same (listed at) → unit_at here at ≡ unit_at there at
  rest-at None h = refl
  rest-at (Some at) h = ap (λ num_fmt. option_and_then (format_unit first_part) num_fmt) h.0

  rest-here : (label : Label) (children : List (Option Units)) → AllByRecursion Same (asked_here cell label) → node_unit here label children ≡ node_unit there label children
  rest-here (leaf (reference sheet corner)) children h = rest-at (end_at cell sheet.index corner) h
  rest-here (leaf (range sheet left right)) children h = rest-at (end_at cell sheet.index left) h
  rest-here (leaf other) children h = refl
  rest-here (call (Other id)) children h = refl
  rest-here (call own) children h = refl
  rest-here other children h = refl

  mutual
    rest : (t : Tree) → AllByRecursion Same (asked_cells cell t) → unit_of here t ≡ unit_of there t
    rest (tree [] label ts) h =
        rest-here label (units_of here ts) (front Same (asked_here cell label) (asked_by_all cell ts) h)
        ∙ ap (node_unit there label) (rest-all ts (back Same (asked_here cell label) (asked_by_all cell ts) h))
    rest (tree (automatic ∷ run) label ts) h = refl

    rest-all : (ts : Trees) → AllByRecursion Same (asked_by_all cell ts) → units_of here ts ≡ units_of there ts
    rest-all none h = refl
    rest-all (more t ts) h =
        ap₂ (λ unit units. unit ∷ units) (rest t (front Same (asked_cells cell t) (asked_by_all cell ts) h)) (rest-all ts (back Same (asked_cells cell t) (asked_by_all cell ts) h))

pub units-rest : UnitsRestOnFormats
units-rest table first second first_part locale cell formula h =
    rest table first second first_part locale cell formula (recursion_from_All _ (asked_cells cell formula) h)
