-- The value of each formula fits its shape, by its structure.
--   shape_well_formed   shapes are well formed
--   leaf_fits           nodes without children
--   fits, all_fit       formulas
--   means-fit           the law
use Rattle.std.proofs.Common.{◌≡◌, ℕ, nat_le, ℤ, pos, negsuc, ◌≤ℤ◌, ◌+ℤ◌, ◌-ℤ◌, arith, Bool, true, false, ◌&&◌, cond, nat_eq, List, [], ◌∷◌, map, length, All, Option, Some, None, Result, Ok, Err, refl}
use Rattle.std.specs.Int.{int_min, int_max, int_gap}
use Rattle.std.specs.List.{AllZip, list_all}
use Rattle.std.proofs.lemmas.Bool.{leb-true}
use Rattle.std.proofs.lemmas.Int.{ints, clamps}
use Rattle.std.proofs.lemmas.List.Elements.{All-nil, All-cons}
use Rattle.call_core.specs.declared.function.Function.{Function}
use Rattle.call_core.specs.declared.function.Function.TheVariants.{Unique, Filter, Take, Drop, Expand, Hstack, Vstack, Choosecols, Chooserows, Tocol, Torow, Transpose, Trimrange, Wrapcols, Wraprows, Sequence, Index, Offset, Choose, Row, Rows, Column, Columns, Indirect, Address, Areas, Formulatext, Arraytotext, Textsplit, Sort, Sortby, Let, Lambda, Map, Reduce, Scan, Byrow, Bycol, Makearray, Other}
use Rattle.value_core.specs.declared.array.ArrayNode.{ArrayNode}
use Rattle.value_core.specs.declared.error.Error.{Error}
use Rattle.value_core.specs.declared.error.Error.TheVariants.{VALUE}
use Rattle.value_core.specs.declared.position.CellReferenceIndex.{CellReferenceIndex}
use Rattle.book_core.specs.Contents.{Contents, line_count}
use Rattle.grid_core.specs.Combine.{combine_one}
use Rattle.grid_core.specs.declared.calc_result.CalcResult.{CalcResult}
use Rattle.grid_core.specs.declared.calc_result.CalcResult.TheVariants as calc
use Rattle.kind_table.specs.declared.shown.Shown.{Shown}
use Rattle.kind_table.specs.declared.static_result.StaticResult.{StaticResult}
use Rattle.kind_table.specs.declared.static_result.StaticResult.TheVariants.{Scalar}
use Rattle.kind_table.specs.Fit.{Fits}
use Rattle.kind_table.specs.OwnRow.{own_row}
use Rattle.kind_table.specs.Shape.{IsWellFormed}
use Rattle.kind_table.specs.ShapeLaws.{combined_well_formed}
use Rattle.kind_table.specs.Table.{Table, IsLawful}
use Rattle.kind_table.proofs.OwnRows.{own_rows_are_well_formed}
use Rattle.tree_core.specs.declared.corner.Corner.{Corner}
use Rattle.tree_core.specs.Label.{Leaf, boolean, number, string, error, empty, reference, range, wrong_reference, wrong_range, array, defined_name, table_name, named_variable, parse_error, binary, unary, leaf, passing, spill, closed, call}
use Rattle.tree_core.specs.Tree.{Tree, tree, Trees, none, more}
use Rattle.shape_core.specs.Shape.{extent, range_shape, literal_shape, leaf_shape, call_shape, shown_all, shape, shapes}
use Rattle.result_core.specs.declared.found.Found.{Found}
use Rattle.result_core.specs.Finding.{value_found, value_of, with_reference}
use Rattle.result_core.specs.Intersection.{under_run}
use Rattle.validity_core.specs.Good.{is_array, is_size}
use Rattle.corner_core.specs.End.{end_at, line_at}
use Rattle.eval_core.specs.Meaning.{call_found, found_all, found_of, leaf_found, literal_found, node_found, range_ends, reference_found, value_in}
use Rattle.eval_core.specs.Setting.{Setting}
use Rattle.own_functions.specs.Own.{call_result, own_found}
use Rattle.reference_functions.specs.Choosing.{choose_call}
use Rattle.reference_functions.specs.Formula.{formula_text_call}
use Rattle.reference_functions.specs.Numbering.{column_call, row_call}
use Rattle.reference_functions.specs.Offsetting.{offset_call}
use Rattle.reference_functions.specs.Sizing.{areas_call, columns_call, rows_call}
use Rattle.text_functions.specs.Address.{address_call}
use Rattle.text_functions.specs.ArrayToText.{array_to_text_call}
use Rattle.reference_fits.specs.AnswersFit.{AnswerFits}
use Rattle.reference_fits.specs.Known.{AreKnown}
use Rattle.reference_fits.proofs.Law.{references-fit}
use Rattle.fit_laws.specs.MeansFit.{MeansFit}
use Rattle.fit_laws.proofs.Sheet.{on_sheet_column, on_sheet_inside, on_sheet_row}
use Rattle.fit_laws.proofs.Shown.{all-shown}
use Rattle.fit_laws.proofs.Texts.{address-fits, array-to-text-fits}
use Rattle.fit_laws.proofs.Fit.{broadcast_fits, unary_fits, rectangle_fits, side_fits, single_fits, of_value_fits, unknown_fits, intersection_fits}

-- ---- well-formed shapes

extent_positive : (a b : Bool) (first last most : ℤ) → pos 1 ≤ℤ most → pos 1 ≤ℤ extent a b first last most
extent_positive true true first last most h = omega (arith, ints, clamps)
extent_positive true false first last most h = h
extent_positive false true first last most h = h
extent_positive false false first last most h = omega (arith, ints, clamps)

leaf_well_formed : (l : Leaf) → IsWellFormed (leaf_shape l)
leaf_well_formed (range sheet left right) = (extent_positive left.absolute_row right.absolute_row left.row right.row (pos 1048576) (omega (arith, ints)), extent_positive left.absolute_column right.absolute_column left.column right.column (pos 16384) (omega (arith, ints)))
leaf_well_formed (array rows) = (omega (arith, ints), omega (arith, ints))
leaf_well_formed (boolean b) = tt
leaf_well_formed (number n) = tt
leaf_well_formed (string text) = tt
leaf_well_formed (error e) = tt
leaf_well_formed empty = tt
leaf_well_formed (reference sheet corner) = tt
leaf_well_formed (wrong_reference name corner) = tt
leaf_well_formed (wrong_range name left right) = tt
leaf_well_formed (defined_name name scope text) = tt
leaf_well_formed (table_name name) = tt
leaf_well_formed (named_variable name id) = tt
leaf_well_formed (parse_error formula message position) = tt

module _ (table : Table) (lawful : IsLawful table) where
  call_well_formed : (kind : Function) (shows : List Shown) (ss : List StaticResult) → All IsWellFormed ss → IsWellFormed (call_shape table kind shows ss)
  call_well_formed (Other id) shows ss h = lawful.well_formed id ss h
  call_well_formed kind shows ss h = own_rows_are_well_formed kind shows ss h

  mutual
    pub shape_well_formed : (t : Tree) → IsWellFormed (shape table t)
    shape_well_formed (tree (flag ∷ run) label ts) = tt
    shape_well_formed (tree [] (leaf l) ts) = leaf_well_formed l
    shape_well_formed (tree [] (passing p) none) = tt
    shape_well_formed (tree [] (passing p) (more t none)) = shape_well_formed t
    shape_well_formed (tree [] (passing p) (more t (more u ts))) = combined_well_formed _ _ (shape_well_formed t) (shape_well_formed u)
    shape_well_formed (tree [] spill ts) = tt
    shape_well_formed (tree [] (closed c) ts) = tt
    shape_well_formed (tree [] (call kind) ts) = call_well_formed kind (shown_all ts) (shapes table ts) (shapes_well_formed ts)

    pub shapes_well_formed : (ts : Trees) → All IsWellFormed (shapes table ts)
    shapes_well_formed none = All-nil IsWellFormed
    shapes_well_formed (more t ts) = All-cons IsWellFormed (shape table t) (shapes table ts) (shape_well_formed t) (shapes_well_formed ts)

-- ---- nodes without children

and-left : (a b : Bool) → (a && b) ≡ true → a ≡ true
and-left true b h = refl
and-left false b h = h

and-right : (a b : Bool) → (a && b) ≡ true → b ≡ true
and-right true b h = h
and-right false b h = cc

gap_is : (a b : ℤ) → a ≤ℤ b → pos (int_gap a b) ≡ b -ℤ a
gap_is (pos a) (pos b) h = omega (arith, ints)
gap_is (pos a) (negsuc b) h = absurd (omega (arith, ints))
gap_is (negsuc a) (pos b) h = omega (arith, ints)
gap_is (negsuc a) (negsuc b) h = omega (arith, ints)

line_count_is : (x y : ℤ) → pos (line_count (int_min x y) (int_max x y)) ≡ int_max x y -ℤ int_min x y +ℤ pos 1
line_count_is x y = let below : int_min x y ≤ℤ int_max x y = omega (arith, ints, clamps) in let e = gap_is (int_min x y) (int_max x y) below in omega (arith, ints, clamps, e)

lines_fit : (a b : Bool) (own first last most : ℤ) → pos 1 ≤ℤ line_at a own first → line_at a own first ≤ℤ most → pos 1 ≤ℤ line_at b own last → line_at b own last ≤ℤ most
    → pos (line_count (int_min (line_at a own first) (line_at b own last)) (int_max (line_at a own first) (line_at b own last))) ≤ℤ extent a b first last most
lines_fit true true own first last most h i j k = let e = line_count_is first last in omega (arith, ints, clamps, e)
lines_fit true false own first last most h i j k = let e = line_count_is first (own +ℤ last) in omega (arith, ints, clamps, e)
lines_fit false true own first last most h i j k = let e = line_count_is (own +ℤ first) last in omega (arith, ints, clamps, e)
lines_fit false false own first last most h i j k = let e = line_count_is (own +ℤ first) (own +ℤ last) in omega (arith, ints, clamps, e)

module _ (book : Contents) (cell : CellReferenceIndex) where
  ranged : (sheet : ℕ) (left right : Corner) (a b : Option CellReferenceIndex) → end_at cell sheet left ≡ a → end_at cell sheet right ≡ b → Fits (range_shape left right) (value_of book (range_ends cell a b))
  ranged sheet left right None b e f = tt
  ranged sheet left right (Some a) None e f = tt
  ranged sheet left right (Some a) (Some b) e f =
      let i = on_sheet_inside sheet (line_at left.absolute_row cell.row left.row) (line_at left.absolute_column cell.column left.column) a e in
      let j = on_sheet_inside sheet (line_at right.absolute_row cell.row right.row) (line_at right.absolute_column cell.column right.column) b f in
      let p = on_sheet_row sheet (line_at left.absolute_row cell.row left.row) (line_at left.absolute_column cell.column left.column) a e in
      let q = on_sheet_row sheet (line_at right.absolute_row cell.row right.row) (line_at right.absolute_column cell.column right.column) b f in
      let r = on_sheet_column sheet (line_at left.absolute_row cell.row left.row) (line_at left.absolute_column cell.column left.column) a e in
      let s = on_sheet_column sheet (line_at right.absolute_row cell.row right.row) (line_at right.absolute_column cell.column right.column) b f in
      rectangle_fits (range_shape left right) (line_count (int_min a.row b.row) (int_max a.row b.row)) (line_count (int_min a.column b.column) (int_max a.column b.column)) _ (
        rw (p, q) (lines_fit left.absolute_row right.absolute_row cell.row left.row right.row (pos 1048576) i.row_above i.row_below j.row_above j.row_below),
        rw (r, s) (lines_fit left.absolute_column right.absolute_column cell.column left.column right.column (pos 16384) i.column_above i.column_below j.column_above j.column_below),
      )

  range_fits : (sheet : ℕ) (left right : Corner) → Fits (range_shape left right) (value_of book (range_ends cell (end_at cell sheet left) (end_at cell sheet right)))
  range_fits sheet left right = ranged sheet left right _ _ refl refl

  literal_by : (rows : List (List ArrayNode)) (test : Bool) → is_array rows ≡ test
      → Fits (literal_shape rows) (value_of book (cond test (calc.Array rows) (calc.Error VALUE cell)))
  literal_by rows false e = tt
  literal_by [] true e = cc
  literal_by (row ∷ rows) true e =
      let sizes = and-left (is_size 1048576 (length (row ∷ rows)) && is_size 16384 (length row)) (list_all (λ each. nat_eq (length each) (length row)) (row ∷ rows)) e in
      let tall = and-right (nat_le 1 (length (row ∷ rows))) (nat_le (length (row ∷ rows)) 1048576) (and-left (is_size 1048576 (length (row ∷ rows))) (is_size 16384 (length row)) sizes) in
      let wide = and-right (nat_le 1 (length row)) (nat_le (length row) 16384) (and-right (is_size 1048576 (length (row ∷ rows))) (is_size 16384 (length row)) sizes) in
      let h = leb-true _ _ tall in let w = leb-true _ _ wide in
      (omega (arith, ints, h, w), omega (arith, ints, h, w))

  literal_fits : (rows : List (List ArrayNode)) → Fits (literal_shape rows) (value_of book (literal_found cell rows))
  literal_fits rows = literal_by rows _ refl

  reference_fits : (s : StaticResult) (at : Option CellReferenceIndex) → Fits s (value_found book cell (reference_found cell at))
  reference_fits s (Some at) = single_fits book cell s (book.value at)
  reference_fits s None = tt

  leaf_fits : (l : Leaf) → Fits (leaf_shape l) (value_found book cell (leaf_found cell l))
  leaf_fits (range sheet left right) = range_fits sheet.index left right
  leaf_fits (array rows) = literal_fits rows
  leaf_fits (boolean b) = tt
  leaf_fits (number n) = tt
  leaf_fits (string text) = tt
  leaf_fits (error e) = tt
  leaf_fits empty = tt
  leaf_fits (reference sheet corner) = reference_fits Scalar (end_at cell sheet.index corner)
  leaf_fits (wrong_reference name corner) = tt
  leaf_fits (wrong_range name left right) = tt
  leaf_fits (defined_name name scope text) = tt
  leaf_fits (table_name name) = tt
  leaf_fits (named_variable name id) = tt
  leaf_fits (parse_error formula message position) = tt

  answer_fits : (s : StaticResult) (answer : Result CalcResult Error) → AnswerFits book s answer → Fits s (value_of book (call_result cell answer))
  answer_fits s (Ok made) fit = fit
  answer_fits s (Err e) fit = tt

  own_fits : (kind : Function) (shows : List Shown) (ss : List StaticResult) (limit : ℕ) (args : List Found) → AreKnown book cell shows ss args
      → Fits (own_row kind shows ss) (value_found book cell (own_found book limit cell kind args))
  own_fits Unique shows ss limit args known = unknown_fits book cell _
  own_fits Filter shows ss limit args known = unknown_fits book cell _
  own_fits Take shows ss limit args known = unknown_fits book cell _
  own_fits Drop shows ss limit args known = unknown_fits book cell _
  own_fits Expand shows ss limit args known = unknown_fits book cell _
  own_fits Hstack shows ss limit args known = unknown_fits book cell _
  own_fits Vstack shows ss limit args known = unknown_fits book cell _
  own_fits Choosecols shows ss limit args known = unknown_fits book cell _
  own_fits Chooserows shows ss limit args known = unknown_fits book cell _
  own_fits Tocol shows ss limit args known = unknown_fits book cell _
  own_fits Torow shows ss limit args known = unknown_fits book cell _
  own_fits Transpose shows ss limit args known = unknown_fits book cell _
  own_fits Trimrange shows ss limit args known = unknown_fits book cell _
  own_fits Wrapcols shows ss limit args known = unknown_fits book cell _
  own_fits Wraprows shows ss limit args known = unknown_fits book cell _
  own_fits Sequence shows ss limit args known = unknown_fits book cell _
  own_fits Index shows ss limit args known = unknown_fits book cell _
  own_fits Offset shows ss limit args known = answer_fits (own_row Offset shows ss) (offset_call book cell args) (references-fit book cell Offset shows ss args known)
  own_fits Choose shows ss limit args known = answer_fits (own_row Choose shows ss) (choose_call book cell args) (references-fit book cell Choose shows ss args known)
  own_fits Row shows ss limit args known = answer_fits (own_row Row shows ss) (row_call cell args) (references-fit book cell Row shows ss args known)
  own_fits Rows shows ss limit args known = answer_fits (own_row Rows shows ss) (rows_call args) (references-fit book cell Rows shows ss args known)
  own_fits Column shows ss limit args known = answer_fits (own_row Column shows ss) (column_call cell args) (references-fit book cell Column shows ss args known)
  own_fits Columns shows ss limit args known = answer_fits (own_row Columns shows ss) (columns_call args) (references-fit book cell Columns shows ss args known)
  own_fits Indirect shows ss limit args known = unknown_fits book cell _
  own_fits Address shows ss limit args known = answer_fits (own_row Address shows ss) (address_call book cell args) (address-fits book cell (own_row Address shows ss) args)
  own_fits Areas shows ss limit args known = answer_fits (own_row Areas shows ss) (areas_call book cell args) (references-fit book cell Areas shows ss args known)
  own_fits Formulatext shows ss limit args known = answer_fits (own_row Formulatext shows ss) (formula_text_call book args) (references-fit book cell Formulatext shows ss args known)
  own_fits Arraytotext shows ss limit args known = answer_fits (own_row Arraytotext shows ss) (array_to_text_call book cell args) (array-to-text-fits book cell (own_row Arraytotext shows ss) args)
  own_fits Textsplit shows ss limit args known = unknown_fits book cell _
  own_fits Sort shows ss limit args known = tt
  own_fits Sortby shows ss limit args known = tt
  own_fits Let shows ss limit args known = tt
  own_fits Lambda shows ss limit args known = tt
  own_fits Map shows ss limit args known = tt
  own_fits Reduce shows ss limit args known = tt
  own_fits Scan shows ss limit args known = tt
  own_fits Byrow shows ss limit args known = tt
  own_fits Bycol shows ss limit args known = tt
  own_fits Makearray shows ss limit args known = tt
  own_fits (Other id) shows ss limit args known = tt

module _ (here : Setting) (lawful : IsLawful here.table) where
  call_fits : (kind : Function) (shows : List Shown) (ss : List StaticResult) (args : List Found) → AreKnown here.book here.cell shows ss args
      → Fits (call_shape here.table kind shows ss) (value_in here (call_found here kind args))
  call_fits (Other id) shows ss args known =
      of_value_fits here.book here.cell _ (here.table.value id (map (value_in here) args)) (lawful.value_fits id ss (map (value_in here) args) known.well_formed known.fit).fits
  call_fits kind shows ss args known = own_fits here.book here.cell kind shows ss here.limit args known

  mutual
    pub fits : (t : Tree) → Fits (shape here.table t) (value_in here (found_of here t))
    fits (tree (flag ∷ run) label ts) = intersection_fits here.book here.cell Scalar (with_reference (under_run here.cell run (node_found here label (found_all here ts))))
    fits (tree [] (leaf l) ts) = leaf_fits here.book here.cell l
    fits (tree [] (passing (binary operator)) none) = tt
    fits (tree [] (passing (binary operator)) (more t none)) = tt
    fits (tree [] (passing (binary operator)) (more t (more u none))) =
        of_value_fits here.book here.cell _ _ (broadcast_fits operator (shape here.table t) (shape here.table u) _ _ (shape_well_formed here.table lawful t) (shape_well_formed here.table lawful u) (fits t) (fits u))
    fits (tree [] (passing (binary operator)) (more t (more u (more v ts)))) = tt
    fits (tree [] (passing (unary operator)) none) = tt
    fits (tree [] (passing (unary operator)) (more t none)) = of_value_fits here.book here.cell _ _ (unary_fits (combine_one operator) (shape here.table t) _ (fits t))
    fits (tree [] (passing (unary operator)) (more t (more u ts))) = tt
    fits (tree [] spill ts) = tt
    fits (tree [] (closed c) ts) = unknown_fits here.book here.cell _
    fits (tree [] (call kind) ts) = call_fits kind (shown_all ts) (shapes here.table ts) (found_all here ts)
        (record { well_formed = shapes_well_formed here.table lawful ts; fit = all_fit ts; shown = all-shown here ts })

    pub all_fit : (ts : Trees) → AllZip Fits (shapes here.table ts) (map (value_in here) (found_all here ts))
    all_fit none = tt
    all_fit (more t ts) = (fits t, all_fit ts)

pub means-fit : MeansFit
means-fit here lawful t = side_fits (shape here.table t) (value_in here (found_of here t)) (shape_well_formed here.table lawful t) (fits here lawful t)
