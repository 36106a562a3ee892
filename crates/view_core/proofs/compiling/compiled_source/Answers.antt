use Rattle.std.proofs.Common.{◌≡◌, ℕ, sym, subst, ◌∙◌, arith}
use Rattle.tree_core.specs.Formula.{tree_of}
use Rattle.view_core.proofs.Compilings.{compiled-array, compiled-error}
use Rattle.view_core.proofs.Constants.{IsArrayOrError, source-is}
use Rattle.view_core.proofs.compiling.compiled_source.Goals as goal

pub of_array-requires : goal.of_array-requires
of_array-requires c =
    subst (IsArrayOrError c.args.cell) (sym (c.in_ok-left.ensures) ∙ c.in-Array.is) (source-is (tree_of c.args.node.now) c.requires c.args.cell)

pub unreachable-requires : goal.unreachable-requires
unreachable-requires c =
    let shape = subst (IsArrayOrError c.args.cell) (sym (c.in_ok-left.ensures)) (source-is (tree_of c.args.node.now) c.requires c.args.cell) in
    grind (arith, shape)

pub returns-in-Array : goal.returns-in-Array
returns-in-Array c limit =
    compiled-array c.args.cell (tree_of c.args.node.now) c.requires limit c.in-Array.grid c.of_array.result (sym (c.in_ok-left.ensures) ∙ c.in-Array.is) c.of_array.ensures

pub returns-in-Error : goal.returns-in-Error
returns-in-Error c limit =
    compiled-error c.args.cell (tree_of c.args.node.now) c.requires limit c.in-Error.error c.in-Error.origin (sym (c.in_ok-left.ensures) ∙ c.in-Error.is)
    (subst (IsArrayOrError c.args.cell) (sym (c.in_ok-left.ensures) ∙ c.in-Error.is) (source-is (tree_of c.args.node.now) c.requires c.args.cell))
