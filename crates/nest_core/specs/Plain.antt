-- Plain nests: formulas whose elements are found one by one.
--   is_literal_leaf, is_bare_literal   a truth value, number, text, error or missing argument
--   is_literal      one of these, or a minus over one
--   is_array_leaf   a range, or an array literal
--   is_nest_kind    the kinds of functions that a plain nest calls
--   is_sequence     SEQUENCE, which has no array among its arguments
--   arrays_of       how many of so many arguments of a call are arrays: the first ones
--   count_of        how many trees stand in a row
--   are_arguments   so many arguments are plain nests, and those behind them literals
--   is_argument     one argument: a plain nest, or a literal
--   is_plain_nest   a range, an array literal, or a call of these kinds over plain nests and literals. No `@` stands in it
use Rattle.std.specs.Prelude.{ℕ, zero, suc, Bool, true, false, ◌&&◌, if◌then◌else◌, []}
use Rattle.call_core.specs.declared.function.Function.{Function}
use Rattle.call_core.specs.declared.function.Function.TheVariants.{Take, Drop, Expand, Hstack, Vstack, Choosecols, Chooserows, Transpose, Wrapcols, Wraprows, Sequence}
use Rattle.value_core.specs.declared.operator.OpUnary.TheVariants.{Minus}
use Rattle.tree_core.specs.Label.{Leaf, boolean, number, string, error, empty, range, array, leaf, passing, unary, call}
use Rattle.tree_core.specs.Tree.{Tree, tree, Trees, none, more}

abbrev pub is_literal_leaf : Leaf → Bool
is_literal_leaf (boolean b) = true
is_literal_leaf (number n) = true
is_literal_leaf (string text) = true
is_literal_leaf (error e) = true
is_literal_leaf empty = true
is_literal_leaf other = false

abbrev pub is_bare_literal : Tree → Bool
is_bare_literal (tree [] (leaf l) ts) = is_literal_leaf l
is_bare_literal t = false

abbrev pub is_literal : Tree → Bool
is_literal (tree [] (leaf l) ts) = is_literal_leaf l
is_literal (tree [] (passing (unary Minus)) (more t none)) = is_bare_literal t
is_literal t = false

abbrev pub is_array_leaf : Leaf → Bool
is_array_leaf (range sheet left right) = true
is_array_leaf (array rows) = true
is_array_leaf other = false

abbrev pub is_nest_kind : Function → Bool
is_nest_kind Sequence = true
is_nest_kind Take = true
is_nest_kind Drop = true
is_nest_kind Transpose = true
is_nest_kind Expand = true
is_nest_kind Hstack = true
is_nest_kind Vstack = true
is_nest_kind Choosecols = true
is_nest_kind Chooserows = true
is_nest_kind Wrapcols = true
is_nest_kind Wraprows = true
is_nest_kind other = false

abbrev pub is_sequence : Function → Bool
is_sequence Sequence = true
is_sequence other = false

abbrev pub arrays_of : Function → ℕ → ℕ
arrays_of Sequence count = 0
arrays_of Hstack count = count
arrays_of Vstack count = count
arrays_of kind count = 1

abbrev pub count_of : Trees → ℕ
count_of none = 0
count_of (more t ts) = suc (count_of ts)

abbrev mutual
  pub is_plain_nest : Tree → Bool
  is_plain_nest (tree [] (leaf l) ts) = is_array_leaf l
  is_plain_nest (tree [] (call kind) ts) = is_nest_kind kind && are_arguments ts (arrays_of kind (count_of ts))
  is_plain_nest t = false

  pub are_arguments : Trees → ℕ → Bool
  are_arguments none arrays = true
  are_arguments (more t ts) zero = is_literal t && are_arguments ts zero
  are_arguments (more t ts) (suc arrays) = is_plain_nest t && are_arguments ts arrays

abbrev pub is_argument : Bool → Tree → Bool
is_argument among_arrays t = if among_arrays then is_plain_nest t else is_literal t
