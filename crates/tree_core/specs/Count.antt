-- How many of something there are in a formula.
--   size_of   its nodes, the `@`s among them
--   calls_of  its calls of functions, `calls_here` of them at one node
--   ats_of    its `@`s: the lengths of its runs
--   count_of, count_of_all   the one of these that is told; count_here, of one node
--   IsLeft    what is left of a number after so many; nothing where there are more
--   size_of_all, calls_of_all, ats_of_all   so in some formulas together
use Rattle.std.specs.Prelude.{◌≡◌, ℕ, ◌+◌, ◌<◌, Option, Some, None, length}
use Rattle.tree_core.specs.Label.{Label, leaf, passing, spill, closed, call}
use Rattle.tree_core.specs.Tree.{Tree, tree, Trees, none, more}
use Rattle.tree_core.specs.View.{Here, bare, at}
use Rattle.tree_core.specs.declared.count.Counted.{Counted}
use Rattle.tree_core.specs.declared.count.Counted.TheVariants.{Nodes, Calls, Ats}

abbrev mutual
  pub size_of : Tree → ℕ
  size_of (tree run label children) = length run + 1 + size_of_all children

  pub size_of_all : Trees → ℕ
  size_of_all none = 0
  size_of_all (more t ts) = size_of t + size_of_all ts

abbrev pub calls_here : Label → ℕ
calls_here (leaf l) = 0
calls_here (passing p) = 0
calls_here spill = 0
calls_here (closed c) = 0
calls_here (call kind) = 1

abbrev mutual
  pub calls_of : Tree → ℕ
  calls_of (tree run label children) = calls_here label + calls_of_all children

  pub calls_of_all : Trees → ℕ
  calls_of_all none = 0
  calls_of_all (more t ts) = calls_of t + calls_of_all ts

abbrev mutual
  pub ats_of : Tree → ℕ
  ats_of (tree run label children) = length run + ats_of_all children

  pub ats_of_all : Trees → ℕ
  ats_of_all none = 0
  ats_of_all (more t ts) = ats_of t + ats_of_all ts

abbrev pub count_of : Counted → Tree → ℕ
count_of Nodes = size_of
count_of Calls = calls_of
count_of Ats = ats_of

abbrev pub count_of_all : Counted → Trees → ℕ
count_of_all Nodes = size_of_all
count_of_all Calls = calls_of_all
count_of_all Ats = ats_of_all

abbrev pub count_here : Counted → Here → ℕ
count_here Nodes here = 1
count_here Calls (bare label) = calls_here label
count_here Calls (at automatic) = 0
count_here Ats (bare label) = 0
count_here Ats (at automatic) = 1

abbrev pub IsLeft : (count most : ℕ) → Option ℕ → Type 0
IsLeft count most (Some left) = most ≡ count + left
IsLeft count most None = most < count
