-- What reads no cell comes to the same over every book.
--   literals-same       literals, and that what they come to reads no cell
--   source-same         a range, or an array literal
--   IsArrayOrError      what a range or an array literal comes to: a range, a rectangle no larger than a sheet, or an error, which
--                       comes from the formula's cell
--   source-is
use Rattle.std.proofs.Common.{◌≡◌, ℕ, Bool, true, false, ◌&&◌, if◌then◌else◌, List, [], ◌∷◌, map, Option, Some, None, All, IsTrue, refl, sym, ap, ap₂, ◌∙◌}
use Rattle.std.specs.List.{list_all}
use Rattle.std.proofs.lemmas.Bool.{and_from, and_parts}
use Rattle.value_core.specs.declared.array.ArrayNode.{ArrayNode}
use Rattle.value_core.specs.declared.array.ArrayNode.TheVariants as item
use Rattle.value_core.specs.declared.error.Error.TheVariants.{VALUE}
use Rattle.value_core.specs.declared.operator.OpUnary.TheVariants.{Minus}
use Rattle.value_core.specs.declared.position.CellReferenceIndex.{CellReferenceIndex}
use Rattle.rectangle_core.specs.declared.value.Value.{Value}
use Rattle.rectangle_core.specs.declared.value.Value.TheVariants.{One, Missing, Grid}
use Rattle.operand_core.specs.Each.{each_of}
use Rattle.book_core.specs.Contents.{no_contents}
use Rattle.grid_core.specs.Combine.{combine_one}
use Rattle.grid_core.specs.declared.calc_result.CalcResult.{CalcResult}
use Rattle.grid_core.specs.declared.calc_result.CalcResult.TheVariants as calc
use Rattle.corner_core.specs.End.{end_at}
use Rattle.kind_table.specs.CrateTable.{crate_table}
use Rattle.tree_core.specs.Formula.{tree_of}
use Rattle.tree_core.specs.Label.{Leaf, boolean, number, string, error, empty, range, array, leaf, passing, unary}
use Rattle.tree_core.specs.Tree.{Tree, tree, Trees, none, more}
use Rattle.tree_core.specs.declared.node.Node.{Node}
use Rattle.result_core.specs.Finding.{of_value, with_reference, wrong}
use Rattle.result_core.specs.declared.found.Found.{Found}
use Rattle.result_core.specs.declared.found.Found.TheVariants.{Same}
use Rattle.validity_core.specs.Good.{is_array}
use Rattle.nest_core.specs.Built.{is_constant, is_constant_result}
use Rattle.nest_core.specs.Plain.{is_array_leaf, is_bare_literal, is_literal, is_literal_leaf}
use Rattle.eval_core.specs.Meaning.{found_of, leaf_found, range_ends, value_in}
use Rattle.eval_core.specs.Setting.{Setting, setting}
use Rattle.view_core.specs.Compiled.{is_source, without_cells}

abbrev bare : CellReferenceIndex → Setting
bare cell = setting crate_table no_contents 0 cell

-- ---- literals

leaf-value : (l : Leaf) → is_literal_leaf l ≡ true → (here : Setting) → value_in here (leaf_found here.cell l) ≡ value_in (bare here.cell) (leaf_found here.cell l)
leaf-value (boolean b) h here = refl
leaf-value (number n) h here = refl
leaf-value (string text) h here = refl
leaf-value (error e) h here = refl
leaf-value empty h here = refl
leaf-value other h here = cc

bare-value : (t : Tree) → is_bare_literal t ≡ true → (here : Setting) → value_in here (found_of here t) ≡ value_in (bare here.cell) (found_of (bare here.cell) t)
bare-value (tree [] (leaf l) ts) h here = leaf-value l h here
bare-value other h here = cc

leaf-same : (l : Leaf) → is_literal_leaf l ≡ true → (cell : CellReferenceIndex) → leaf_found cell l ≡ Same (with_reference (leaf_found cell l))
leaf-same (boolean b) h cell = refl
leaf-same (number n) h cell = refl
leaf-same (string text) h cell = refl
leaf-same (error e) h cell = refl
leaf-same empty h cell = refl
leaf-same other h cell = cc

literal-same : (t : Tree) → is_literal t ≡ true → (here : Setting) → found_of here t ≡ Same (without_cells here.cell t)
literal-same (tree [] (leaf l) ts) h here = leaf-same l h here.cell
literal-same (tree [] (passing (unary Minus)) (more t none)) h here =
    ap (λ v. Same (of_value here.cell (each_of (combine_one Minus) v))) (bare-value t h here)
literal-same other h here = cc

element-constant : (cell : CellReferenceIndex) (v : Value) → is_constant_result (of_value cell v) ≡ true
element-constant cell (One (item.Number n)) = refl
element-constant cell (One (item.Boolean b)) = refl
element-constant cell (One (item.String text)) = refl
element-constant cell (One (item.Error e)) = refl
element-constant cell (One item.Empty) = refl
element-constant cell Missing = refl
element-constant cell (Grid rows) = refl

leaf-constant : (l : Leaf) → is_literal_leaf l ≡ true → (cell : CellReferenceIndex) → is_constant_result (with_reference (leaf_found cell l)) ≡ true
leaf-constant (boolean b) h cell = refl
leaf-constant (number n) h cell = refl
leaf-constant (string text) h cell = refl
leaf-constant (error e) h cell = refl
leaf-constant empty h cell = refl
leaf-constant other h cell = cc

literal-constant : (t : Tree) → is_literal t ≡ true → (cell : CellReferenceIndex) → is_constant_result (without_cells cell t) ≡ true
literal-constant (tree [] (leaf l) ts) h cell = leaf-constant l h cell
literal-constant (tree [] (passing (unary Minus)) (more t none)) h cell = element-constant cell (each_of (combine_one Minus) (value_in (bare cell) (found_of (bare cell) t)))
literal-constant other h cell = cc

abbrev pub are_literals : List Node → Bool
are_literals = list_all (λ node. is_literal (tree_of node))

pub literals-same : (nodes : List Node) → are_literals nodes ≡ true → (here : Setting) →
    map (λ node. Same (without_cells here.cell (tree_of node))) nodes ≡ map (λ node. found_of here (tree_of node)) nodes
literals-same [] h here = refl
literals-same (node ∷ nodes) h here = let p = and_parts _ _ h in
    ap₂ (λ f fs. f ∷ fs) (sym (literal-same (tree_of node) p.0 here)) (literals-same nodes p.1 here)

pub literals-constant : (nodes : List Node) → are_literals nodes ≡ true → (cell : CellReferenceIndex) →
    list_all is_constant (map (λ node. Same (without_cells cell (tree_of node))) nodes) ≡ true
literals-constant [] h cell = refl
literals-constant (node ∷ nodes) h cell = let p = and_parts _ _ h in and_from _ _ (literal-constant (tree_of node) p.0 cell) (literals-constant nodes p.1 cell)

-- ---- ranges and array literals

leaf-source : (l : Leaf) → is_array_leaf l ≡ true → (cell : CellReferenceIndex) → leaf_found cell l ≡ Same (with_reference (leaf_found cell l))
leaf-source (range sheet left right) h cell = refl
leaf-source (array rows) h cell = refl
leaf-source other h cell = cc

pub source-same : (t : Tree) → is_source t ≡ true → (here : Setting) → found_of here t ≡ Same (without_cells here.cell t)
source-same (tree [] (leaf l) ts) h here = leaf-source l h here.cell
source-same other h here = cc

abbrev pub IsArrayOrError : CellReferenceIndex → CalcResult → Type 0
IsArrayOrError cell (calc.Range left right) = Unit {0}
IsArrayOrError cell (calc.Array rows) = is_array rows ≡ true
IsArrayOrError cell (calc.Error e origin) = origin ≡ cell
IsArrayOrError cell other = ⊥

ends-is : (cell : CellReferenceIndex) (left right : Option CellReferenceIndex) → IsArrayOrError cell (range_ends cell left right)
ends-is cell (Some a) (Some b) = tt
ends-is cell (Some a) None = refl
ends-is cell None right = refl

rows-is : (cell : CellReferenceIndex) (rows : List (List ArrayNode)) (b : Bool) → is_array rows ≡ b → IsArrayOrError cell (if b then calc.Array rows else wrong cell VALUE)
rows-is cell rows true e = e
rows-is cell rows false e = refl

leaf-is : (l : Leaf) → is_array_leaf l ≡ true → (cell : CellReferenceIndex) → IsArrayOrError cell (with_reference (leaf_found cell l))
leaf-is (range sheet left right) h cell = ends-is cell (end_at cell sheet.index left) (end_at cell sheet.index right)
leaf-is (array rows) h cell = rows-is cell rows (is_array rows) refl
leaf-is other h cell = cc

pub source-is : (t : Tree) → is_source t ≡ true → (cell : CellReferenceIndex) → IsArrayOrError cell (without_cells cell t)
source-is (tree [] (leaf l) ts) h cell = leaf-is l h cell
source-is other h cell = cc
