-- What an argument shows of itself before any evaluation is so of what it comes to.
--   shown-is    of one argument, and all-shown, of each of some
use Rattle.std.proofs.Common.{◌≡◌, ℕ, ℤ, pos, ◌≤ℤ◌, Bool, true, false, ◌&&◌, cond, int_le, List, [], ◌∷◌, Option, Some, None, refl, sym, ap, ◌∙◌, subst, arith}
use Rattle.std.specs.Int.{int_max, int_min}
use Rattle.std.specs.List.{AllZip}
use Rattle.std.proofs.lemmas.Int.{ints, clamps}
use Rattle.value_core.specs.declared.position.CellReferenceIndex.{CellReferenceIndex}
use Rattle.book_core.specs.Contents.{line_count}
use Rattle.grid_core.specs.declared.calc_result.CalcResult.TheVariants as calc
use Rattle.kind_table.specs.declared.shown.Shown.TheVariants as shown
use Rattle.tree_core.specs.declared.corner.Corner.{Corner}
use Rattle.tree_core.specs.Label.{boolean, number, string, error, empty, reference, range, wrong_reference, wrong_range, array, defined_name, table_name, named_variable, parse_error, leaf, passing, spill, closed, call}
use Rattle.tree_core.specs.Tree.{Tree, tree, Trees, none, more}
use Rattle.shape_core.specs.Shape.{same_flag, same_line, shown, shown_all}
use Rattle.corner_core.specs.End.{end_at, line_at}
use Rattle.result_core.specs.Finding.{with_reference}
use Rattle.result_core.specs.declared.found.Found.TheVariants.{Same}
use Rattle.reference_fits.specs.Known.{IsOneCell, IsRangeShown, ShownIs}
use Rattle.reference_fits.proofs.Sizes.{one-line}
use Rattle.eval_core.specs.Meaning.{found_all, found_of, range_ends, reference_found}
use Rattle.eval_core.specs.Setting.{Setting}
use Rattle.fit_laws.proofs.Sheet.{on_sheet_column, on_sheet_row}

same_number : (a b : ℤ) → same_line a b ≡ true → a ≡ b
same_number a b e = grind (arith, ints)

same_line_at : (a b : Bool) (own first last : ℤ) → (same_flag a b && same_line first last) ≡ true → line_at a own first ≡ line_at b own last
same_line_at true true own first last e = same_number first last e
same_line_at true false own first last e = absurd cc
same_line_at false true own first last e = absurd cc
same_line_at false false own first last e = ap (λ line. line_at false own line) (same_number first last e)

both_lines : (a b : ℤ) → a ≡ b → line_count (int_min a b) (int_max a b) ≡ 1
both_lines a b e = subst (λ c. line_count (int_min a c) (int_max a c) ≡ 1) e (alone (int_min a a) (int_max a a) (omega (arith, ints, clamps)))
  where
    alone : (first last : ℤ) → first ≡ last → line_count first last ≡ 1
    alone first last e = subst (λ l. line_count first l ≡ 1) e (one-line first)

module _ (cell : CellReferenceIndex) where
  range_stays : (sheet : ℕ) (left right : Corner) (a b : Option CellReferenceIndex) → end_at cell sheet left ≡ a → end_at cell sheet right ≡ b
      → IsRangeShown (same_flag left.absolute_row right.absolute_row && same_line left.row right.row) (same_flag left.absolute_column right.absolute_column && same_line left.column right.column) (range_ends cell a b)
  range_stays sheet left right None b e f = tt
  range_stays sheet left right (Some a) None e f = tt
  range_stays sheet left right (Some a) (Some b) e f = (
    λ same. both_lines a.row b.row (on_sheet_row sheet (line_at left.absolute_row cell.row left.row) (line_at left.absolute_column cell.column left.column) a e
        ∙ same_line_at left.absolute_row right.absolute_row cell.row left.row right.row same
        ∙ sym (on_sheet_row sheet (line_at right.absolute_row cell.row right.row) (line_at right.absolute_column cell.column right.column) b f)),
    λ same. both_lines a.column b.column (on_sheet_column sheet (line_at left.absolute_row cell.row left.row) (line_at left.absolute_column cell.column left.column) a e
        ∙ same_line_at left.absolute_column right.absolute_column cell.column left.column right.column same
        ∙ sym (on_sheet_column sheet (line_at right.absolute_row cell.row right.row) (line_at right.absolute_column cell.column right.column) b f)),
  )

  reference_stays : (at : Option CellReferenceIndex) → IsOneCell (with_reference (reference_found cell at))
  reference_stays (Some at) = refl
  reference_stays None = tt

number_is : (n : ℤ) (test : Bool) → same_line n (pos 1000000) ≡ test → ShownIs (cond test shown.One shown.Nothing) (Same (calc.Number n))
number_is n true e = ap (λ m. Same (calc.Number m)) (same_number n (pos 1000000) e)
number_is n false e = tt

module _ (here : Setting) where
  pub shown-is : (t : Tree) → ShownIs (shown t) (found_of here t)
  shown-is (tree (flag ∷ run) label ts) = tt
  shown-is (tree [] (leaf (range sheet left right)) ts) = range_stays here.cell sheet.index left right _ _ refl refl
  shown-is (tree [] (leaf (reference sheet corner)) ts) = reference_stays here.cell (end_at here.cell sheet.index corner)
  shown-is (tree [] (leaf (number n)) ts) = number_is n _ refl
  shown-is (tree [] (leaf (boolean b)) ts) = tt
  shown-is (tree [] (leaf (string text)) ts) = tt
  shown-is (tree [] (leaf (error e)) ts) = tt
  shown-is (tree [] (leaf empty) ts) = tt
  shown-is (tree [] (leaf (wrong_reference name corner)) ts) = tt
  shown-is (tree [] (leaf (wrong_range name left right)) ts) = tt
  shown-is (tree [] (leaf (array rows)) ts) = tt
  shown-is (tree [] (leaf (defined_name name scope text)) ts) = tt
  shown-is (tree [] (leaf (table_name name)) ts) = tt
  shown-is (tree [] (leaf (named_variable name id)) ts) = tt
  shown-is (tree [] (leaf (parse_error formula message position)) ts) = tt
  shown-is (tree [] (passing p) ts) = tt
  shown-is (tree [] spill ts) = tt
  shown-is (tree [] (closed c) ts) = tt
  shown-is (tree [] (call kind) ts) = tt

  pub all-shown : (ts : Trees) → AllZip ShownIs (shown_all ts) (found_all here ts)
  all-shown none = tt
  all-shown (more t ts) = (shown-is t, all-shown ts)
