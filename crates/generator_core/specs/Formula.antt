-- The formula of a generated request.
--   column   the first 1000 rows of a column of the one sheet
--   applied  a call
--   total_kept   `SUM(FILTER(C1:C1000,B1:B1000))`
--   term     `INDEX(C1:C1000,k+1)`, `C1:C1000` and `ROWS(UNIQUE(A1:A1000))` in turn, by k from 0
--   total    the sum, nested to the left, of the first and so many of these
use Rattle.std.specs.Prelude.{ℕ, zero, suc, ◌+◌, ◌*◌, ◌%◌, ◌==◌, ℤ, pos, true, if◌then◌else◌, List, [], ◌∷◌, None}
use Rattle.call_core.specs.declared.function.Function.{Function}
use Rattle.call_core.specs.declared.function.Function.TheVariants.{Filter, Index, Other, Rows, Unique}
use Rattle.value_core.specs.declared.operator.OpSum.TheVariants.{Add}
use Rattle.value_core.specs.declared.operator.Operator.TheVariants.{Sum}
use Rattle.tree_core.specs.Formula.{bare_leaf, between, corner}
use Rattle.tree_core.specs.Label.{call, number, range}
use Rattle.tree_core.specs.Tree.{Tree, forest, tree}

abbrev pub column : ℤ → Tree
column at = bare_leaf (range (record { name = None; index = 0 }) (corner true true (pos 1) at) (corner true true (pos 1000) at))

abbrev pub applied : Function → List Tree → Tree
applied kind arguments = tree [] (call kind) (forest arguments)

-- the kind of SUM in the table of the crate
abbrev pub sum : Function
sum = Other 13

abbrev pub total_kept : Tree
total_kept = applied sum (applied Filter (column (pos 3) ∷ column (pos 2) ∷ []) ∷ [])

abbrev pub term : ℕ → Tree
term k =
    if k % 3 == 0 then applied Index (column (pos 3) ∷ bare_leaf (number (pos ((k + 1) * 1000000))) ∷ [])
    else if k % 3 == 1 then column (pos 3)
    else applied Rows (applied Unique (column (pos 1) ∷ []) ∷ [])

abbrev pub total : ℕ → Tree
total zero = total_kept
total (suc k) = between (Sum Add) (total k) (term k)
