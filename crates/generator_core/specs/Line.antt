-- What is told of the answer to a generated request.
--   summary_line  how many nodes the formula has, how many `@`s import puts in and how many of them export keeps, the size of the
--                 spilled value and the elements of the other one
use Rattle.std.specs.Prelude.{ℕ, false, List, [], ◌∷◌, ◌++◌, codes, decimal}
use Rattle.rectangle_core.specs.Rectangle.{height, width}
use Rattle.tree_core.specs.Count.{ats_of, size_of}
use Rattle.tree_core.specs.Formula.{tree_of}
use Rattle.tree_core.specs.Tree.{Tree}
use Rattle.array_texts.specs.ArrayText.{array_text}
use Rattle.print_core.specs.declared.answer.Answer.{Answer}

abbrev pub summary_line : Tree → Answer → List ℕ
summary_line given answer =
    codes "nodes " ++ decimal (size_of given)
    ++ codes " added " ++ decimal (ats_of (tree_of answer.imported))
    ++ codes " kept " ++ decimal (ats_of (tree_of answer.exported))
    ++ codes " rows " ++ decimal (height answer.spilled)
    ++ codes " columns " ++ decimal (width answer.spilled)
    ++ codes " legacy " ++ array_text false answer.legacy ++ 10 ∷ []
