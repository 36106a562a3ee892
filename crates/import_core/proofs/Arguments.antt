-- The arguments of a call, one by one.
--   each-more     what comes of one argument more
--   each-imports  the imports of all, as those of the trees
--   each-afters   their shapes
--   wants-of      whether one value is wanted of one argument
use Rattle.std.proofs.Common.{◌≡◌, ℕ, zero, suc, ◌+◌, List, [], ◌∷◌, ◌++◌, Some, map, length, slice_get, ◌<◌, get_or, arith, take, Bool, false, ◌&&◌, refl, sym, ap, ap₂, ◌∙◌}
use Rattle.std.specs.Option.{option_map_or}
use Rattle.call_core.specs.declared.function.Function.{Function}
use Rattle.tree_core.specs.Tree.{more, forest}
use Rattle.tree_core.specs.Formula.{tree_of}
use Rattle.tree_core.specs.declared.node.Node.{Node}
use Rattle.kind_table.specs.Table.{Table}
use Rattle.shape_core.specs.Shape.{shapes, shape}
use Rattle.import_core.specs.declared.rule.ImportRule.{ImportRule}
use Rattle.import_core.specs.Rule.{Rule}
use Rattle.import_core.specs.ImportOf.{import_of}
use Rattle.import_core.specs.After.{after, after_all, is_scalar, is_wanted_of, signature_of, wants_one}
use Rattle.import_core.specs.Arguments.{each}
use Rattle.import_core.proofs.Below.{import_all}

pub each-more : {A B : Type 0} (f : ℕ → A → B) (args : List A) (i : ℕ) (arg : A) (before : List B) (it : B) → i < length args → arg ≡ get_or args i arg
    → before ≡ each f (take i args) → it ≡ f i arg → before ++ it ∷ [] ≡ each f (take (i + 1) args)
each-more f args i arg before it within is rest h = rw (rest, h) (next f args i arg within is ∙ ap (λ k. each f (take k args)) (let one : suc i ≡ i + 1 = omega arith in one))
  where
    next : {A B : Type 0} (f : ℕ → A → B) (args : List A) (i : ℕ) (arg : A) → i < length args → arg ≡ get_or args i arg → each f (take i args) ++ f i arg ∷ [] ≡ each f (take (suc i) args)
    next f [] i arg within is = absurd (omega arith)
    next f (first ∷ args) zero arg within is = ap (λ a. f 0 a ∷ []) is
    next f (first ∷ args) (suc i) arg within is = ap (λ rest. f 0 first ∷ rest) (next (λ k. f (suc k)) args i arg (omega arith) is)

pub each-imports : (rule : Rule) (contexts : ℕ → Bool) (args : List Node)
    → forest (each (λ i arg. import_of rule (contexts i) (tree_of arg)) args) ≡ import_all rule contexts (forest (map tree_of args))
each-imports rule contexts [] = refl
each-imports rule contexts (arg ∷ args) = ap (more (import_of rule (contexts 0) (tree_of arg))) (each-imports rule (λ i. contexts (suc i)) args)

module _ (which : ImportRule) (table : Table) where
  pub each-afters : (contexts : ℕ → Bool) (args : List Node) → each (λ i arg. after which table (contexts i) (tree_of arg)) args ≡ after_all which table contexts (forest (map tree_of args))
  each-afters contexts [] = refl
  each-afters contexts (arg ∷ args) = ap (λ rest. after which table (contexts 0) (tree_of arg) ∷ rest) (each-afters (λ i. contexts (suc i)) args)

  shapes-count : (args : List Node) → length (shapes table (forest (map tree_of args))) ≡ length args
  shapes-count [] = refl
  shapes-count (arg ∷ args) = ap suc (shapes-count args)

  shape-at : (args : List Node) (i : ℕ) (arg : Node) → Some arg ≡ slice_get args i → slice_get (shapes table (forest (map tree_of args))) i ≡ Some (shape table (tree_of arg))
  shape-at [] i arg h = cc
  shape-at (first ∷ args) zero arg h = let e : arg ≡ first = cc in ap (λ a. Some (shape table (tree_of a))) (sym e)
  shape-at (first ∷ args) (suc i) arg h = shape-at args i arg h

  wants-at : (kind : Function) (args : List Node) (i : ℕ) (arg : Node) → Some arg ≡ slice_get args i
      → wants_one which table kind (shapes table (forest (map tree_of args))) i ≡ (is_scalar (signature_of table kind (length args) i) && is_wanted_of which kind (shape table (tree_of arg)))
  wants-at kind args i arg h =
      ap₂ (λ n o. is_scalar (signature_of table kind n i) && option_map_or (is_wanted_of which kind) o false) (shapes-count args) (shape-at args i arg h)

  pub wants-of : (kind : Function) (args items : List Node) (count i : ℕ) (arg : Node) → items ≡ args → count ≡ length args → Some arg ≡ slice_get items i
      → (is_scalar (signature_of table kind count i) && is_wanted_of which kind (shape table (tree_of arg))) ≡ wants_one which table kind (shapes table (forest (map tree_of items))) i
  wants-of kind args items count i arg e n h =
      ap (λ k. is_scalar (signature_of table kind k i) && is_wanted_of which kind (shape table (tree_of arg))) (n ∙ ap length (sym e)) ∙ sym (wants-at kind items i arg h)
