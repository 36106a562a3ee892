-- The imported formula and its shape, for each class of nodes, from those of the parts.
use Rattle.std.proofs.Common.{◌≡◌, [], ◌∷◌, Bool, true, false, not, ◌&&◌, ◌||◌, if◌then◌else◌, refl, sym, ap, ◌∙◌}
use Rattle.std.proofs.lemmas.Bool.{false≢true}
use Rattle.call_core.specs.declared.function.Function.{Function}
use Rattle.kind_table.specs.declared.static_result.StaticResult.{StaticResult}
use Rattle.kind_table.specs.declared.static_result.StaticResult.TheVariants.{Scalar, Unknown}
use Rattle.kind_table.specs.Shape.{combined}
use Rattle.kind_table.specs.Table.{Table}
use Rattle.value_core.specs.declared.operator.Operator.{Operator}
use Rattle.tree_core.specs.Label.{Leaf, Closed, Label, leaf, passing, binary, unary, spill, closed, call}
use Rattle.value_core.specs.declared.operator.OpUnary.{OpUnary}
use Rattle.tree_core.specs.Tree.{Run, Tree, tree, Trees, none, more, run_of, label_of, under}
use Rattle.tree_core.specs.Formula.{one, two, between, bare_leaf}
use Rattle.shape_core.specs.Shape.{shown_all, shapes, call_shape, leaf_shape}
use Rattle.import_core.specs.declared.rule.ImportRule.{ImportRule}
use Rattle.import_core.specs.Imported.{merged_run}
use Rattle.import_core.specs.ImportOf.{is_bare, opens, import_of}
use Rattle.import_core.specs.After.{after, after_all, binds, is_large, is_range_like_leaf, is_range_operator, may_be_range_like, wants_one}
use Rattle.import_core.specs.ImportRule.{import_rule}
use Rattle.import_core.proofs.Below.{import_all, import_of-open, import_of-shut}

-- ---- nodes that import does not enter

over_bare : (put : Bool) (label : Label) (ts : Trees) → tree (if put then true ∷ [] else []) label ts ≡ (if put then under true (tree [] label ts) else tree [] label ts)
over_bare true label ts = refl
over_bare false label ts = refl

module _ (which : ImportRule) (table : Table) where
  pub import-leaf : (add : Bool) (l : Leaf) → import_of (import_rule which table) add (bare_leaf l) ≡ (if add && is_range_like_leaf l then under true (bare_leaf l) else bare_leaf l)
  import-leaf add l = import_of-open (import_rule which table) add [] (leaf l) none refl ∙ over_bare (add && is_range_like_leaf l) (leaf l) none

  pub import-of-leaf : (add like : Bool) (l : Leaf) (t : Tree) → t ≡ bare_leaf l → like ≡ is_range_like_leaf l → (if add && like then under true t else t) ≡ import_of (import_rule which table) add t
  import-of-leaf add like l t e h = rw (e, h) (sym (import-leaf add l))

  pub import-closed : (add : Bool) (c : Closed) (ts : Trees) → import_of (import_rule which table) add (tree [] (closed c) ts) ≡ (if add && is_range_operator c then under true (tree [] (closed c) ts) else tree [] (closed c) ts)
  import-closed add c ts = import_of-shut (import_rule which table) add [] (closed c) ts refl ∙ over_bare (add && is_range_operator c) (closed c) ts

  pub after-leaf : (add : Bool) (l : Leaf) → after which table add (bare_leaf l) ≡ (if add && is_range_like_leaf l then Scalar else leaf_shape l)
  after-leaf add l = refl

  pub after-closed : (add : Bool) (c : Closed) (ts : Trees) → after which table add (tree [] (closed c) ts) ≡ (if add && is_range_operator c then Scalar else Unknown)
  after-closed add c ts = refl

  -- ---- operators

  pub import-unary : (add : Bool) (kind : OpUnary) (t : Tree)
      → import_of (import_rule which table) add (tree [] (passing (unary kind)) (one t)) ≡ tree [] (passing (unary kind)) (one (import_of (import_rule which table) add t))
  import-unary true kind t = import_of-open (import_rule which table) true [] (passing (unary kind)) (one t) refl
  import-unary false kind t = import_of-open (import_rule which table) false [] (passing (unary kind)) (one t) refl

  pub import-between : (add : Bool) (operator : Operator) (t u : Tree)
      → import_of (import_rule which table) add (between operator t u) ≡ between operator (import_of (import_rule which table) add t) (import_of (import_rule which table) add u)
  import-between true operator t u = import_of-open (import_rule which table) true [] (passing (binary operator)) (two t u) refl
  import-between false operator t u = import_of-open (import_rule which table) false [] (passing (binary operator)) (two t u) refl

  pub import-spill : (add : Bool) (t : Tree) → import_of (import_rule which table) add (tree [] spill (one t)) ≡ tree [] spill (one (import_of (import_rule which table) add t))
  import-spill true t = import_of-open (import_rule which table) true [] spill (one t) refl
  import-spill false t = import_of-open (import_rule which table) false [] spill (one t) refl

  pub after-unary : (add : Bool) (kind : OpUnary) (t : Tree) → after which table add (tree [] (passing (unary kind)) (one t)) ≡ after which table add t
  after-unary true kind t = refl
  after-unary false kind t = refl

  pub after-between : (add : Bool) (operator : Operator) (t u : Tree) → after which table add (between operator t u) ≡ combined (after which table add t) (after which table add u)
  after-between true operator t u = refl
  after-between false operator t u = refl

  pub after-spill : (add : Bool) (t : Tree) → after which table add (tree [] spill (one t)) ≡ Unknown
  after-spill true t = refl
  after-spill false t = refl

  -- ---- calls

  abbrev pub call_after : Function → Trees → StaticResult
  call_after kind ts = call_shape table kind (shown_all ts) (after_all which table (wants_one which table kind (shapes table ts)) ts)

  abbrev pub is_intersected : Bool → Function → Trees → Bool
  is_intersected add kind ts = add && (not (binds kind) && is_large (call_after kind ts))

  pub import-call : (add : Bool) (kind : Function) (ts : Trees) → import_of (import_rule which table) add (tree [] (call kind) ts)
      ≡ tree (if is_intersected add kind ts then true ∷ [] else []) (call kind) (import_all (import_rule which table) (wants_one which table kind (shapes table ts)) ts)
  import-call add kind ts = import_of-open (import_rule which table) add [] (call kind) ts refl

  pub after-call : (add : Bool) (kind : Function) (ts : Trees) → after which table add (tree [] (call kind) ts) ≡ (if is_intersected add kind ts then Scalar else call_after kind ts)
  after-call add kind ts = refl

  -- ---- under an `@`

  pub after-under : (add automatic : Bool) (t : Tree) → after which table add (under automatic t) ≡ Scalar
  after-under add automatic (tree run label ts) = refl

  merged-bare : (flag : Bool) (run : Run) → is_bare (merged_run (flag ∷ run)) ≡ false
  merged-bare flag [] = refl
  merged-bare flag (next ∷ run) = merged-bare next run

  -- over a further `@` import does as over the ones below it, where there are some or where one is put
  over : (add automatic flag : Bool) (run : Run) (label : Label) (ts : Trees)
      → import_of (import_rule which table) add (tree (automatic ∷ flag ∷ run) label ts) ≡ import_of (import_rule which table) add (tree (flag ∷ run) label ts)
  over add automatic flag run label ts =
      elim (opens (import_rule which table) add (tree (flag ∷ run) label ts)) as (λ b. opens (import_rule which table) add (tree (flag ∷ run) label ts) ≡ b
      → import_of (import_rule which table) add (tree (automatic ∷ flag ∷ run) label ts) ≡ import_of (import_rule which table) add (tree (flag ∷ run) label ts)) [
        | true ↦ λ e. import_of-open (import_rule which table) add (automatic ∷ flag ∷ run) label ts e ∙ sym (import_of-open (import_rule which table) add (flag ∷ run) label ts e)
        | false ↦ λ e. import_of-shut (import_rule which table) add (automatic ∷ flag ∷ run) label ts e ∙ sym (import_of-shut (import_rule which table) add (flag ∷ run) label ts e)
      ] refl

  wanted_over : (automatic : Bool) (label : Label) (ts : Trees) → (import_rule which table).range_like label ts ≡ true
      → import_of (import_rule which table) true (tree (automatic ∷ []) label ts) ≡ import_of (import_rule which table) true (tree [] label ts)
  wanted_over automatic label ts like =
      elim ((import_rule which table).closed label) as (λ b. (import_rule which table).closed label ≡ b
      → import_of (import_rule which table) true (tree (automatic ∷ []) label ts) ≡ import_of (import_rule which table) true (tree [] label ts)) [
        | true ↦ λ e. import_of-shut (import_rule which table) true (automatic ∷ []) label ts (rw e refl) ∙ rw like refl ∙ sym (import_of-shut (import_rule which table) true [] label ts (rw e refl))
        | false ↦ λ e. import_of-open (import_rule which table) true (automatic ∷ []) label ts (rw (e, like) refl) ∙ rw like refl ∙ sym (import_of-open (import_rule which table) true [] label ts (rw e refl))
      ] refl

  pub import-replaced : (add automatic : Bool) (t : Tree) → is_bare (run_of (import_of (import_rule which table) add t)) ≡ false
      → import_of (import_rule which table) add (under automatic t) ≡ import_of (import_rule which table) add t
  import-replaced add automatic (tree (flag ∷ run) label ts) h = over add automatic flag run label ts
  import-replaced false automatic (tree [] label ts) h = cc
  import-replaced true automatic (tree [] label ts) h =
      elim ((import_rule which table).range_like label ts) as (λ b. (import_rule which table).range_like label ts ≡ b
      → import_of (import_rule which table) true (tree (automatic ∷ []) label ts) ≡ import_of (import_rule which table) true (tree [] label ts)) [
        | true ↦ λ e. wanted_over automatic label ts e
        | false ↦ λ e. (let bare : true ≡ false = rw e at h in cc)
      ] refl

  pub import-kept : (add automatic : Bool) (t : Tree) → is_bare (run_of (import_of (import_rule which table) add t)) ≡ true
      → import_of (import_rule which table) add (under automatic t) ≡ under automatic t
  import-kept add automatic (tree (flag ∷ run) label ts) h =
      let bare = elim (add && (import_rule which table).range_like label ts) as (λ b. is_bare (if b then true ∷ [] else merged_run (flag ∷ run)) ≡ true → true ≡ false) [
        | true ↦ λ e. sym e
        | false ↦ λ e. sym e ∙ merged-bare flag run
      ] in
      absurd (false≢true (sym (bare h)))
  import-kept add automatic (tree [] label ts) h =
      let unwanted : (add && (import_rule which table).range_like label ts) ≡ false = elim (add && (import_rule which table).range_like label ts) as (λ b. is_bare (if b then true ∷ [] else []) ≡ true → b ≡ false) [
        | true ↦ λ e. sym e
        | false ↦ λ e. refl
      ] h in
      import_of-shut (import_rule which table) add (automatic ∷ []) label ts (rw unwanted (none_opens (not ((import_rule which table).closed label)))) ∙ rw unwanted refl
    where
      none_opens : (b : Bool) → (b && (false || false)) ≡ false
      none_opens true = refl
      none_opens false = refl

-- the import of a formula under a further `@`
pub import-under : (which : ImportRule) (table : Table) (add automatic : Bool) (t : Tree) → import_of (import_rule which table) add (under automatic t)
    ≡ (if is_bare (run_of (import_of (import_rule which table) add t)) then under automatic t else import_of (import_rule which table) add t)
import-under which table add automatic t =
    elim (is_bare (run_of (import_of (import_rule which table) add t))) as (λ b. is_bare (run_of (import_of (import_rule which table) add t)) ≡ b
    → import_of (import_rule which table) add (under automatic t) ≡ (if b then under automatic t else import_of (import_rule which table) add t)) [
      | true ↦ λ e. import-kept which table add automatic t e
      | false ↦ λ e. import-replaced which table add automatic t e
    ] refl

pub bare-under : (automatic : Bool) (t : Tree) → is_bare (run_of (under automatic t)) ≡ false
bare-under automatic (tree run label ts) = refl

pub label-under : (automatic : Bool) (t : Tree) → label_of (under automatic t) ≡ label_of t
label-under automatic (tree run label ts) = refl

pub ruleset labels = (label-under)

pub ruleset classes = (bare-under, import-under, import-leaf, import-closed, after-leaf, after-closed, import-unary, import-between, import-spill, after-unary, after-between, after-spill, after-call, after-under)
