-- The shape that a formula has once import was done.
--   is_large        a shape that may hold many values: a range, or one that is not known
--   is_scalar, signature_of  how a call takes an argument: as one value; by its signature
--   takes_every     whether a call wants one value of each argument that it takes as one: by the rule `EveryScalar`, LET and LAMBDA
--                   aside
--   is_wanted_of    whether one value is wanted of an argument that a call takes as one: of each, or where its given shape is large
--   wants_argument  whether one value is wanted of one of so many arguments, by its number from 0 and by its given shape
--   wants_one       whether one value is wanted of an argument of a call, by its number and by the given shapes of all
--   argument_contexts  so of a call over its arguments
--   context         whether one value is wanted of child i, from whether one is wanted of the node: an operator and `#` hand on
--                   what is wanted of them, and a call wants it of its arguments
--   binds           LET and LAMBDA
--   may_be_range_like  a node over which import may put an `@`, by some table and some children
--   is_range_like   a node that may stand for many values, by what its children show and by their shapes after import
--   after, after_all  the shape of a formula after import, and of each of some formulas
--   children_after  the shapes of a node's children after import, each in its context
use Rattle.std.specs.Prelude.{ℕ, suc, Bool, true, false, ◌&&◌, ◌||◌, not, if◌then◌else◌, List, [], ◌∷◌, length}
use Rattle.std.specs.List.{slice_get}
use Rattle.std.specs.Option.{option_map_or}
use Rattle.call_core.specs.declared.function.Function.{Function}
use Rattle.call_core.specs.declared.function.Function.TheVariants.{Let, Lambda, Other}
use Rattle.kind_table.specs.declared.shown.Shown.{Shown}
use Rattle.kind_table.specs.declared.signature.Signature.{Signature}
use Rattle.kind_table.specs.declared.signature.Signature.TheVariants as signature
use Rattle.kind_table.specs.declared.static_result.StaticResult.{StaticResult}
use Rattle.kind_table.specs.declared.static_result.StaticResult.TheVariants.{Scalar, Array, Range, Unknown}
use Rattle.kind_table.specs.OwnSignature.{own_signature}
use Rattle.kind_table.specs.Table.{Table}
use Rattle.tree_core.specs.Label.{Leaf, range, defined_name, named_variable, Closed, range_operator, Label, leaf, passing, spill, closed, call}
use Rattle.tree_core.specs.Tree.{Tree, tree, Trees, none, more}
use Rattle.shape_core.specs.Shape.{shown_all, call_shape, node_shape, shapes}
use Rattle.import_core.specs.declared.rule.ImportRule.{ImportRule}
use Rattle.import_core.specs.declared.rule.ImportRule.TheVariants.{AsCrate, EveryScalar}
use Rattle.import_core.specs.RangeText.{is_range_reference}

abbrev pub is_large : StaticResult → Bool
is_large Scalar = false
is_large (Array rows columns) = false
is_large (Range rows columns) = true
is_large Unknown = true

abbrev pub is_scalar : Signature → Bool
is_scalar signature.Scalar = true
is_scalar signature.Vector = false
is_scalar signature.Error = false

abbrev pub signature_of : Table → Function → ℕ → ℕ → Signature
signature_of table (Other id) count index = table.signature id count index
signature_of table kind count index = own_signature kind count index

abbrev pub binds : Function → Bool
binds Let = true
binds Lambda = true
binds kind = false

abbrev pub takes_every : ImportRule → Function → Bool
takes_every AsCrate kind = false
takes_every EveryScalar kind = not (binds kind)

abbrev pub is_wanted_of : ImportRule → Function → StaticResult → Bool
is_wanted_of which kind shape = takes_every which kind || is_large shape

abbrev pub wants_argument : ImportRule → Table → Function → ℕ → ℕ → StaticResult → Bool
wants_argument which table kind count i shape = is_scalar (signature_of table kind count i) && is_wanted_of which kind shape

abbrev pub wants_one : ImportRule → Table → Function → List StaticResult → ℕ → Bool
wants_one which table kind given i = is_scalar (signature_of table kind (length given) i) && option_map_or (is_wanted_of which kind) (slice_get given i) false

abbrev pub argument_contexts : ImportRule → Table → Function → Trees → ℕ → Bool
argument_contexts which table kind args i = wants_one which table kind (shapes table args) i

abbrev pub context : ImportRule → Table → Bool → Label → Trees → ℕ → Bool
context which table add (leaf l) ts i = false
context which table add (passing p) ts i = add
context which table add spill ts i = add
context which table add (closed c) ts i = false
context which table add (call kind) ts i = argument_contexts which table kind ts i

abbrev pub is_range_like_leaf : Leaf → Bool
is_range_like_leaf (range sheet left right) = true
is_range_like_leaf (named_variable name id) = true
is_range_like_leaf (defined_name name scope text) = is_range_reference text
is_range_like_leaf other = false

abbrev pub is_range_operator : Closed → Bool
is_range_operator range_operator = true
is_range_operator other = false

abbrev pub may_be_range_like : Label → Bool
may_be_range_like (leaf l) = is_range_like_leaf l
may_be_range_like (passing p) = false
may_be_range_like spill = false
may_be_range_like (closed c) = is_range_operator c
may_be_range_like (call kind) = not (binds kind)

abbrev pub is_range_like : Table → Label → List Shown → List StaticResult → Bool
is_range_like table (leaf l) shows after_import = is_range_like_leaf l
is_range_like table (passing p) shows after_import = false
is_range_like table spill shows after_import = false
is_range_like table (closed c) shows after_import = is_range_operator c
is_range_like table (call kind) shows after_import = not (binds kind) && is_large (call_shape table kind shows after_import)

abbrev mutual
  pub after : ImportRule → Table → Bool → Tree → StaticResult
  after which table add (tree (flag ∷ run) label ts) = Scalar
  after which table add (tree [] label ts) =
      if add && is_range_like table label (shown_all ts) (after_all which table (context which table add label ts) ts) then Scalar
      else node_shape table label (shown_all ts) (after_all which table (context which table add label ts) ts)

  pub after_all : ImportRule → Table → (ℕ → Bool) → Trees → List StaticResult
  after_all which table contexts none = []
  after_all which table contexts (more t ts) = after which table (contexts 0) t ∷ after_all which table (λ i. contexts (suc i)) ts

abbrev pub children_after : ImportRule → Table → Bool → Label → Trees → List StaticResult
children_after which table add label ts = after_all which table (context which table add label ts) ts
