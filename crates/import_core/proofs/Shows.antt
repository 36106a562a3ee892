-- What arguments show of themselves stays as it is where a row asks for it: import puts no `@` over the first argument of ROW, COLUMN
-- or OFFSET, nor over a number.
--   merged-bare  a run that isn't empty is not empty when it is merged
--   rows-kept    the shape of a call over imported arguments, as over the given ones
use Rattle.std.proofs.Common.{◌≡◌, ℕ, zero, suc, List, [], ◌∷◌, length, slice_get, Bool, true, false, ◌&&◌, if◌then◌else◌, Option, Some, None, option_map, option_and_then, refl, ap, ◌∙◌}
use Rattle.call_core.specs.declared.function.Function.{Function}
use Rattle.call_core.specs.declared.function.Function.TheVariants.{Unique, Filter, Take, Drop, Expand, Hstack, Vstack, Choosecols, Chooserows, Tocol, Torow, Transpose, Trimrange, Wrapcols, Wraprows, Sequence, Index, Offset, Choose, Row, Rows, Column, Columns, Indirect, Address, Areas, Formulatext, Arraytotext, Textsplit, Sort, Sortby, Let, Lambda, Map, Reduce, Scan, Byrow, Bycol, Makearray, Other}
use Rattle.kind_table.specs.declared.shown.Shown.{Shown}
use Rattle.kind_table.specs.declared.shown.Shown.TheVariants.{Nothing}
use Rattle.kind_table.specs.declared.signature.Signature.TheVariants.{Vector, Error}
use Rattle.kind_table.specs.declared.static_result.StaticResult.{StaticResult}
use Rattle.kind_table.specs.OwnRow.{is_one, is_one_if_given, line_row, offset_by, same_row, same_column}
use Rattle.kind_table.specs.OwnSignature.{own_patterns}
use Rattle.kind_table.specs.Pattern.{signature_by}
use Rattle.kind_table.specs.Table.{Table}
use Rattle.tree_core.specs.Label.{Label, boolean, number, string, error, empty, reference, range, wrong_reference, wrong_range, array, defined_name, table_name, named_variable, parse_error}
use Rattle.tree_core.specs.Label.{leaf, passing, spill, closed, call}
use Rattle.tree_core.specs.Tree.{Run, Tree, tree, Trees, none, more}
use Rattle.shape_core.specs.Shape.{call_shape, shown, shown_all}
use Rattle.import_core.specs.declared.rule.ImportRule.{ImportRule}
use Rattle.import_core.specs.After.{is_range_operator, is_scalar, wants_one}
use Rattle.import_core.specs.Imported.{merged_run}
use Rattle.import_core.specs.ImportOf.{is_bare, import_of}
use Rattle.import_core.specs.ImportRule.{import_rule}
use Rattle.import_core.specs.RangeText.{is_range_reference}
use Rattle.import_core.proofs.Below.{import_all}

pub merged-bare : (flag : Bool) (run : Run) → is_bare (merged_run (flag ∷ run)) ≡ false
merged-bare flag [] = refl
merged-bare flag (next ∷ run) = merged-bare next run

under_run : (run : Run) (label : Label) (ts : Trees) → is_bare run ≡ false → shown (tree run label ts) ≡ Nothing
under_run [] label ts h = cc
under_run (flag ∷ run) label ts h = refl

pub any_children : (label : Label) (ts us : Trees) → shown (tree [] label ts) ≡ shown (tree [] label us)
any_children (leaf (boolean b)) ts us = refl
any_children (leaf (number n)) ts us = refl
any_children (leaf (string text)) ts us = refl
any_children (leaf (error e)) ts us = refl
any_children (leaf empty) ts us = refl
any_children (leaf (reference sheet corner)) ts us = refl
any_children (leaf (range sheet left right)) ts us = refl
any_children (leaf (wrong_reference name corner)) ts us = refl
any_children (leaf (wrong_range name left right)) ts us = refl
any_children (leaf (array rows)) ts us = refl
any_children (leaf (defined_name name scope text)) ts us = refl
any_children (leaf (table_name name)) ts us = refl
any_children (leaf (named_variable name id)) ts us = refl
any_children (leaf (parse_error formula message position)) ts us = refl
any_children (passing p) ts us = refl
any_children spill ts us = refl
any_children (closed c) ts us = refl
any_children (call kind) ts us = refl

run_or : (b : Bool) (flag : Bool) (run : Run) → is_bare (if b then true ∷ [] else merged_run (flag ∷ run)) ≡ false
run_or true flag run = refl
run_or false flag run = merged-bare flag run

no_one : (b : Bool) (label : Label) (ts us : Trees) → is_one (shown (tree [] label ts)) ≡ false → is_one (shown (tree (if b then true ∷ [] else []) label us)) ≡ false
no_one true label ts us h = refl
no_one false label ts us h = ap is_one (any_children label us ts) ∙ h

module _ (which : ImportRule) (table : Table) where
  shown-unwanted : (t : Tree) → shown (import_of (import_rule which table) false t) ≡ shown t
  shown-unwanted (tree [] label ts) = any_children label _ ts
  shown-unwanted (tree (flag ∷ run) label ts) = under_run (merged_run (flag ∷ run)) label _ (merged-bare flag run)

  one-kept : (add : Bool) (t : Tree) → is_one (shown (import_of (import_rule which table) add t)) ≡ is_one (shown t)
  one-kept false t = ap is_one (shown-unwanted t)
  one-kept true (tree (flag ∷ run) label ts) = ap is_one (under_run _ label _ (run_or ((import_rule which table).range_like label ts) flag run))
  one-kept true (tree [] (leaf (boolean b)) ts) = refl
  one-kept true (tree [] (leaf (number n)) ts) = refl
  one-kept true (tree [] (leaf (string text)) ts) = refl
  one-kept true (tree [] (leaf (error e)) ts) = refl
  one-kept true (tree [] (leaf empty) ts) = refl
  one-kept true (tree [] (leaf (reference sheet corner)) ts) = refl
  one-kept true (tree [] (leaf (range sheet left right)) ts) = refl
  one-kept true (tree [] (leaf (wrong_reference name corner)) ts) = refl
  one-kept true (tree [] (leaf (wrong_range name left right)) ts) = refl
  one-kept true (tree [] (leaf (array rows)) ts) = refl
  one-kept true (tree [] (leaf (defined_name name scope text)) ts) = no_one (is_range_reference text) (leaf (defined_name name scope text)) ts _ refl
  one-kept true (tree [] (leaf (table_name name)) ts) = refl
  one-kept true (tree [] (leaf (named_variable name id)) ts) = refl
  one-kept true (tree [] (leaf (parse_error formula message position)) ts) = refl
  one-kept true (tree [] (passing p) ts) = refl
  one-kept true (tree [] spill ts) = refl
  one-kept true (tree [] (closed c) ts) = no_one (is_range_operator c) (closed c) ts _ refl
  one-kept true (tree [] (call kind) ts) = no_one ((import_rule which table).range_like (call kind) ts) (call kind) ts _ refl

  first-kept : (contexts : ℕ → Bool) (ts : Trees) → contexts 0 ≡ false → slice_get (shown_all (import_all (import_rule which table) contexts ts)) 0 ≡ slice_get (shown_all ts) 0
  first-kept contexts none e = refl
  first-kept contexts (more t ts) e = ap Some (ap (λ add. shown (import_of (import_rule which table) add t)) e ∙ shown-unwanted t)

  ones-kept : (contexts : ℕ → Bool) (ts : Trees) (i : ℕ) → option_map is_one (slice_get (shown_all (import_all (import_rule which table) contexts ts)) i) ≡ option_map is_one (slice_get (shown_all ts) i)
  ones-kept contexts none i = refl
  ones-kept contexts (more t ts) zero = ap Some (one-kept (contexts 0) t)
  ones-kept contexts (more t ts) (suc i) = ones-kept (λ k. contexts (suc k)) ts i

  count-kept : (contexts : ℕ → Bool) (ts : Trees) → length (shown_all (import_all (import_rule which table) contexts ts)) ≡ length (shown_all ts)
  count-kept contexts none = refl
  count-kept contexts (more t ts) = ap suc (count-kept (λ k. contexts (suc k)) ts)

if_given : (a b : Option Shown) → option_map is_one a ≡ option_map is_one b → is_one_if_given a ≡ is_one_if_given b
if_given None None e = refl
if_given None (Some y) e = cc
if_given (Some x) None e = cc
if_given (Some x) (Some y) e = cc

unwanted : (b c : Bool) → (is_scalar (if b then Vector else Error) && c) ≡ false
unwanted true c = refl
unwanted false c = refl

offset_same : (n n' : ℕ) (a a' b b' c c' : Option Shown) → n ≡ n' → a ≡ a' → is_one_if_given b ≡ is_one_if_given b' → is_one_if_given c ≡ is_one_if_given c' → offset_by n a b c ≡ offset_by n' a' b' c'
offset_same n n' a a' b b' c c' e f g h = rw (e, f, g, h) refl

module _ (which : ImportRule) (table : Table) (given after_import : List StaticResult) (ts : Trees) where
  abbrev contexts : Function → ℕ → Bool
  contexts kind = wants_one which table kind given

  unwanted_row : contexts Row 0 ≡ false
  unfolding signature_by own_patterns
  unwanted_row = unwanted _ _

  unwanted_column : contexts Column 0 ≡ false
  unfolding signature_by own_patterns
  unwanted_column = unwanted _ _

  unwanted_offset : contexts Offset 0 ≡ false
  unfolding signature_by own_patterns
  unwanted_offset = unwanted _ _

  pub rows-kept : (kind : Function) → call_shape table kind (shown_all (import_all (import_rule which table) (wants_one which table kind given) ts)) after_import ≡ call_shape table kind (shown_all ts) after_import
  rows-kept Unique = refl
  rows-kept Filter = refl
  rows-kept Take = refl
  rows-kept Drop = refl
  rows-kept Expand = refl
  rows-kept Hstack = refl
  rows-kept Vstack = refl
  rows-kept Choosecols = refl
  rows-kept Chooserows = refl
  rows-kept Tocol = refl
  rows-kept Torow = refl
  rows-kept Transpose = refl
  rows-kept Trimrange = refl
  rows-kept Wrapcols = refl
  rows-kept Wraprows = refl
  rows-kept Sequence = refl
  rows-kept Index = refl
  rows-kept Offset = offset_same _ _ _ _ _ _ _ _ (count-kept which table (contexts Offset) ts) (first-kept which table (contexts Offset) ts unwanted_offset)
      (if_given _ _ (ones-kept which table (contexts Offset) ts 3)) (if_given _ _ (ones-kept which table (contexts Offset) ts 4))
  rows-kept Choose = refl
  rows-kept Row = ap (λ o. line_row (option_and_then same_row o) after_import) (first-kept which table (contexts Row) ts unwanted_row)
  rows-kept Rows = refl
  rows-kept Column = ap (λ o. line_row (option_and_then same_column o) after_import) (first-kept which table (contexts Column) ts unwanted_column)
  rows-kept Columns = refl
  rows-kept Indirect = refl
  rows-kept Address = refl
  rows-kept Areas = refl
  rows-kept Formulatext = refl
  rows-kept Arraytotext = refl
  rows-kept Textsplit = refl
  rows-kept Sort = refl
  rows-kept Sortby = refl
  rows-kept Let = refl
  rows-kept Lambda = refl
  rows-kept Map = refl
  rows-kept Reduce = refl
  rows-kept Scan = refl
  rows-kept Byrow = refl
  rows-kept Bycol = refl
  rows-kept Makearray = refl
  rows-kept (Other id) = refl
