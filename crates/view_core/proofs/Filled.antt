-- What plain nests come to.
--   filled-mean, filled-error-mean      a rectangle, or an error, as the value of a formula
--   filled-array, filled-error-array    the same as the rectangle that a formula is taken as
--   filled-call    a call of a nest's kinds that comes to a rectangle comes to an array
--   source-without   a range or an array literal is the same over every book
--   alike-context, alike-reference      and so is whatever is a result
use Rattle.std.proofs.Common.{◌≡◌, Bool, true, false, ◌&&◌, List, [], Result, Ok, Err, refl, sym, ap, ◌∙◌}
use Rattle.std.proofs.lemmas.Bool.{and_parts}
use Rattle.call_core.specs.declared.function.Function.{Function}
use Rattle.value_core.specs.declared.array.ArrayNode.{ArrayNode}
use Rattle.value_core.specs.declared.array.ArrayNode.TheVariants as item
use Rattle.value_core.specs.declared.array.ArrayNode.TheVariants.{Empty}
use Rattle.value_core.specs.declared.error.Error.{Error}
use Rattle.value_core.specs.declared.position.CellReferenceIndex.{CellReferenceIndex}
use Rattle.rectangle_core.specs.Rectangle.{one_by_one}
use Rattle.rectangle_core.specs.declared.value.Value.TheVariants.{Grid}
use Rattle.operand_core.specs.Side.{side}
use Rattle.book_core.specs.Contents.{Contents}
use Rattle.grid_core.specs.declared.calc_result.CalcResult.{CalcResult}
use Rattle.grid_core.specs.declared.calc_result.CalcResult.TheVariants as calc
use Rattle.result_core.specs.Finding.{array_of, in_context, value_of, with_reference, wrong}
use Rattle.result_core.specs.declared.found.Found.{Found}
use Rattle.result_core.specs.declared.found.Found.TheVariants.{Same}
use Rattle.tree_core.specs.Label as label
use Rattle.tree_core.specs.Label.{Leaf, leaf, call}
use Rattle.tree_core.specs.Tree.{Tree, tree, Trees}
use Rattle.own_functions.specs.Own.{call_result, own_call}
use Rattle.eval_core.specs.Answer.{array_in, context_of, or_wrong, reference_of}
use Rattle.eval_core.specs.Meaning.{found_all, found_of, leaf_found, mean, value_in}
use Rattle.eval_core.specs.Setting.{Setting}
use Rattle.nest_core.specs.Plain.{is_array_leaf, is_nest_kind, is_plain_nest}
use Rattle.view_core.specs.Compiled.{without_cells}
use Rattle.view_core.proofs.Ranges.{call-own, NoRange, own-no-range}

pub filled-mean : (here : Setting) (t : Tree) (rows : List (List ArrayNode)) → value_in here (found_of here t) ≡ Grid rows → mean here t ≡ rows
filled-mean here t rows h = ap (side Empty) h

pub filled-error-mean : (here : Setting) (t : Tree) (e : Error) → found_of here t ≡ Same (wrong here.cell e) → mean here t ≡ one_by_one (item.Error e)
filled-error-mean here t e h = ap (λ found. side Empty (value_in here found)) h

grid-array : (book : Contents) (made : CalcResult) (rows : List (List ArrayNode)) → value_of book made ≡ Grid rows → array_of book made ≡ Ok rows
grid-array book (calc.Number n) rows h = cc
grid-array book (calc.Boolean b) rows h = cc
grid-array book (calc.String text) rows h = cc
grid-array book (calc.Error e origin) rows h = cc
grid-array book (calc.Range left right) rows h = cc
grid-array book (calc.Array array) rows h = cc
grid-array book calc.EmptyCell rows h = cc
grid-array book calc.EmptyArg rows h = cc

pub filled-array : (here : Setting) (t : Tree) (rows : List (List ArrayNode)) → value_in here (found_of here t) ≡ Grid rows → Ok rows ≡ array_in here t
filled-array here t rows h = sym (ap (or_wrong here.cell) (grid-array here.book (in_context here.book here.cell (found_of here t)) rows h))

pub filled-error-array : (here : Setting) (t : Tree) (e : Error) → found_of here t ≡ Same (wrong here.cell e) → Err (wrong here.cell e) ≡ array_in here t
filled-error-array here t e h = sym (ap (λ found. or_wrong here.cell (array_of here.book (in_context here.book here.cell found))) h)

grid-no-range : (book : Contents) (cell : CellReferenceIndex) (made : Result CalcResult Error) (rows : List (List ArrayNode)) → NoRange made →
    value_of book (call_result cell made) ≡ Grid rows → call_result cell made ≡ calc.Array rows
grid-no-range book cell (Ok (calc.Number n)) rows none h = cc
grid-no-range book cell (Ok (calc.Boolean b)) rows none h = cc
grid-no-range book cell (Ok (calc.String text)) rows none h = cc
grid-no-range book cell (Ok (calc.Error e origin)) rows none h = cc
grid-no-range book cell (Ok (calc.Range left right)) rows none h = absurd none.other
grid-no-range book cell (Ok (calc.Array array)) rows none h = cc
grid-no-range book cell (Ok calc.EmptyCell) rows none h = cc
grid-no-range book cell (Ok calc.EmptyArg) rows none h = cc
grid-no-range book cell (Err e) rows none h = cc

call-filled : (here : Setting) (k : Function) (ts : Trees) (rows : List (List ArrayNode)) → is_plain_nest (tree [] (call k) ts) ≡ true →
    value_in here (found_of here (tree [] (call k) ts)) ≡ Grid rows → found_of here (tree [] (call k) ts) ≡ Same (calc.Array rows)
call-filled here k ts rows plain h =
    let nest : is_nest_kind k ≡ true = (and_parts _ _ plain).0 in
    let is = call-own k nest here (found_all here ts) in
    is ∙ ap Same (grid-no-range here.book here.cell (own_call here.book here.limit here.cell k (found_all here ts)) rows
    (own-no-range here.book here.limit here.cell (found_all here ts) k nest) (sym (ap (value_in here) is) ∙ h))

pub filled-call : (here : Setting) (t : Tree) (k : Function) (ts : Trees) (rows : List (List ArrayNode)) → t ≡ tree [] (call k) ts → is_plain_nest t ≡ true →
    value_in here (found_of here t) ≡ Grid rows → found_of here t ≡ Same (calc.Array rows)
filled-call here t k ts rows e plain h =
    ap (found_of here) e ∙ call-filled here k ts rows (sym (ap is_plain_nest e) ∙ plain) (sym (ap (λ u. value_in here (found_of here u)) e) ∙ h)

leaf-without : (here : Setting) (l : Leaf) (ts : Trees) → is_array_leaf l ≡ true → found_of here (tree [] (leaf l) ts) ≡ Same (without_cells here.cell (tree [] (leaf l) ts))
leaf-without here (label.range sheet left right) ts h = refl
leaf-without here (label.array rows) ts h = refl
leaf-without here other ts h = cc

pub source-without : (here : Setting) (t : Tree) (l : Leaf) (ts : Trees) → t ≡ tree [] (leaf l) ts → is_plain_nest t ≡ true → found_of here t ≡ Same (without_cells here.cell t)
source-without here t l ts e plain = ap (found_of here) e ∙ leaf-without here l ts (sym (ap is_plain_nest e) ∙ plain) ∙ ap (λ u. Same (without_cells here.cell u)) (sym e)

pub alike-context : (here : Setting) (t : Tree) (made : CalcResult) → found_of here t ≡ Same made → made ≡ context_of here t
alike-context here t made h = sym (ap (in_context here.book here.cell) h)

pub alike-reference : (here : Setting) (t : Tree) (made : CalcResult) → found_of here t ≡ Same made → made ≡ reference_of here t
alike-reference here t made h = sym (ap with_reference h)

pub ruleset filled = (filled-mean, filled-error-mean, filled-array, filled-error-array, filled-call, source-without, alike-context, alike-reference)
