-- A formula that comes back: its import, in a context, is a given one.
--   back-shape, back-most   then its shape after import is the given one's, which is at most its own shape
--   back-own       and the given one is its own import, in any context that is no wider
--   like-back      and what is range-like is told by the given one alone
--   flip           where it comes back and nothing is wanted, it comes back where one value is wanted exactly if the given one is its own import there
use Rattle.std.proofs.Common.{◌≡◌, ◌↔◌, ℕ, [], ◌∷◌, Bool, true, false, not, ◌&&◌, ◌||◌, if◌then◌else◌, refl, sym, ap, ap₂, ◌∙◌, subst}
use Rattle.kind_table.specs.Shape.{IsAtMost}
use Rattle.kind_table.specs.Table.{Table}
use Rattle.tree_core.specs.Label.{Label, leaf, passing, spill, closed, call}
use Rattle.tree_core.specs.Tree.{Run, Tree, tree, Trees, none, more, run_of, children_of}
use Rattle.shape_core.specs.Shape.{call_shape, shape, shapes, shown_all}
use Rattle.import_core.specs.declared.rule.ImportRule.{ImportRule}
use Rattle.import_core.specs.After.{after, after_all, binds, context, is_large, is_range_like, wants_one}
use Rattle.import_core.specs.Imported.{merged_run}
use Rattle.import_core.specs.ImportOf.{is_bare, opens, import_of}
use Rattle.import_core.specs.ImportRule.{import_rule, is_closed}
use Rattle.import_core.proofs.Below.{import_all, root_run, import_of-open, import_of-shut}
use Rattle.import_core.proofs.Shows.{merged-bare, rows-kept}
use Rattle.import_core.proofs.Settle.{after-shape, afters-shapes, after-most, IsMonotone, again}

abbrev pub Back : ImportRule → Table → Bool → Tree → Tree → Type 0
Back which table w e t = import_of (import_rule which table) w e ≡ t

abbrev pub AllBack : ImportRule → Table → (ℕ → Bool) → Trees → Trees → Type 0
AllBack which table contexts es ts = import_all (import_rule which table) contexts es ≡ ts

-- whether a node is range-like by the given shapes of its children
abbrev pub like : Table → Label → Trees → Bool
like table label ts = is_range_like table label (shown_all ts) (shapes table ts)

abbrev pub head_of : Trees → Tree → Tree
head_of none t = t
head_of (more u us) t = u

abbrev pub rest_of : Trees → Trees
rest_of none = none
rest_of (more u us) = us

module _ (which : ImportRule) (table : Table) where
  pub back-shape : (w : Bool) (e t : Tree) → Back which table w e t → after which table w e ≡ shape table t
  back-shape w e t h = sym (after-shape which table w e) ∙ ap (shape table) h

  pub all_back-shapes : (contexts : ℕ → Bool) (es ts : Trees) → AllBack which table contexts es ts → after_all which table contexts es ≡ shapes table ts
  all_back-shapes contexts es ts h = sym (afters-shapes which table contexts es) ∙ ap (shapes table) h

  pub like-back : (w : Bool) (label : Label) (es ts : Trees) → AllBack which table (context which table w label es) es ts → (import_rule which table).range_like label es ≡ like table label ts
  like-back w (leaf l) es ts h = refl
  like-back w (passing p) es ts h = refl
  like-back w spill es ts h = refl
  like-back w (closed c) es ts h = refl
  like-back w (call kind) es ts h =
      let contexts = wants_one which table kind (shapes table es) in
      ap (λ s. not (binds kind) && is_large s)
      (sym (rows-kept which table (shapes table es) (after_all which table contexts es) es kind)
      ∙ ap₂ (λ us ss. call_shape table kind (shown_all us) ss) h (all_back-shapes contexts es ts h))

  -- ---- merging first changes nothing

  bare-merged : (run : Run) → is_bare (merged_run run) ≡ is_bare run
  bare-merged [] = refl
  bare-merged (flag ∷ run) = merged-bare flag run

  merged_again : (run : Run) → merged_run (merged_run run) ≡ merged_run run
  merged_again [] = refl
  merged_again (flag ∷ []) = refl
  merged_again (outer ∷ flag ∷ run) = merged_again (flag ∷ run)

  merge-first : (w : Bool) (run : Run) (label : Label) (ts : Trees) → import_of (import_rule which table) w (tree (merged_run run) label ts) ≡ import_of (import_rule which table) w (tree run label ts)
  merge-first w run label ts =
      let rule = import_rule which table in
      let same : opens rule w (tree (merged_run run) label ts) ≡ opens rule w (tree run label ts) = ap (λ b. not (rule.closed label) && (b || (w && rule.range_like label ts))) (bare-merged run) in
      let root : root_run rule w (merged_run run) label ts ≡ root_run rule w run label ts = ap (λ r. if w && rule.range_like label ts then true ∷ [] else r) (merged_again run) in
      elim (opens rule w (tree run label ts)) as (λ b. opens rule w (tree run label ts) ≡ b → import_of rule w (tree (merged_run run) label ts) ≡ import_of rule w (tree run label ts)) [
        | true ↦ λ e. import_of-open rule w (merged_run run) label ts (same ∙ e) ∙ ap (λ r. tree r label (import_all rule (rule.context w label ts) ts)) root ∙ sym (import_of-open rule w run label ts e)
        | false ↦ λ e. import_of-shut rule w (merged_run run) label ts (same ∙ e) ∙ ap (λ r. tree r label ts) root ∙ sym (import_of-shut rule w run label ts e)
      ] refl

  -- ---- a bare node that import enters

  pub enters : (w : Bool) (label : Label) (es : Trees) → is_closed label ≡ false → opens (import_rule which table) w (tree [] label es) ≡ true
  enters w label es h = rw h refl

  pub node-back : (w : Bool) (label : Label) (es : Trees) (s : Run) (ts : Trees) → is_closed label ≡ false → AllBack which table (context which table w label es) es ts
      → (if w && like table label ts then true ∷ [] else []) ≡ s → Back which table w (tree [] label es) (tree s label ts)
  node-back w label es s ts entered each root =
      import_of-open (import_rule which table) w [] label es (enters w label es entered)
      ∙ ap₂ (λ r us. tree r label us) (ap (λ b. if w && b then true ∷ [] else []) (like-back w label es ts each) ∙ root) each

  pub back-children : (w : Bool) (label : Label) (es : Trees) (s : Run) (l : Label) (ts : Trees) → is_closed label ≡ false → Back which table w (tree [] label es) (tree s l ts)
      → AllBack which table (context which table w label es) es ts
  back-children w label es s l ts entered h = ap children_of (sym (import_of-open (import_rule which table) w [] label es (enters w label es entered)) ∙ h)

  pub back-root : (w : Bool) (label : Label) (es : Trees) (s : Run) (l : Label) (ts : Trees) → is_closed label ≡ false → Back which table w (tree [] label es) (tree s l ts)
      → (if w && like table label ts then true ∷ [] else []) ≡ s
  back-root w label es s l ts entered h =
      ap (λ b. if w && b then true ∷ [] else []) (sym (like-back w label es ts (back-children w label es s l ts entered h)))
      ∙ ap run_of (sym (import_of-open (import_rule which table) w [] label es (enters w label es entered)) ∙ h)

  -- ---- one value comes to be wanted

  unwanted-shut : (run : Run) (label : Label) (ts : Trees) → opens (import_rule which table) false (tree run label ts) ≡ false → import_of (import_rule which table) false (tree run label ts) ≡ tree (merged_run run) label ts
  unwanted-shut run label ts h = import_of-shut (import_rule which table) false run label ts h

  flip-shut : (run : Run) (label : Label) (es : Trees) (t : Tree) → opens (import_rule which table) false (tree run label es) ≡ false → Back which table false (tree run label es) t → Back which table true t t → Back which table true (tree run label es) t
  flip-shut run label es t shut h own =
      let same : tree (merged_run run) label es ≡ t = sym (unwanted-shut run label es shut) ∙ h in
      sym (merge-first true run label es) ∙ ap (import_of (import_rule which table) true) same ∙ own

  flip-open : (label : Label) (es : Trees) (t : Tree) → is_closed label ≡ false → Back which table false (tree [] label es) t → Back which table true t t
      → ((us : Trees) → AllBack which table (context which table false label es) es us → AllBack which table (context which table true label us) us us → AllBack which table (context which table true label es) es us)
      → Back which table true (tree [] label es) t
  flip-open label es t entered h own children =
      let rule = import_rule which table in
      let us = import_all rule (context which table false label es) es in
      let e0 : tree [] label us ≡ t = sym (import_of-open rule false [] label es (enters false label es entered)) ∙ h in
      let own0 : Back which table true (tree [] label us) (tree [] label us) = subst (λ u. Back which table true u u) (sym e0) own in
      node-back true label es [] us entered (children us refl (back-children true label us [] label us entered own0)) (back-root true label us [] label us entered own0) ∙ e0

  mutual
    pub flip : (e t : Tree) → Back which table false e t → Back which table true t t → Back which table true e t
    flip (tree (flag ∷ run) (leaf l) es) t h own = flip-shut (flag ∷ run) (leaf l) es t refl h own
    flip (tree (flag ∷ run) (passing p) es) t h own = flip-shut (flag ∷ run) (passing p) es t refl h own
    flip (tree (flag ∷ run) spill es) t h own = flip-shut (flag ∷ run) spill es t refl h own
    flip (tree (flag ∷ run) (closed c) es) t h own = flip-shut (flag ∷ run) (closed c) es t refl h own
    flip (tree (flag ∷ run) (call kind) es) t h own = flip-shut (flag ∷ run) (call kind) es t refl h own
    flip (tree [] (closed c) es) t h own = flip-shut [] (closed c) es t refl h own
    flip (tree [] (leaf l) es) t h own = flip-open (leaf l) es t refl h own (λ us each again. each)
    flip (tree [] (passing p) es) t h own = flip-open (passing p) es t refl h own (λ us each again. flips es us each again)
    flip (tree [] spill es) t h own = flip-open spill es t refl h own (λ us each again. flips es us each again)
    flip (tree [] (call kind) es) t h own = flip-open (call kind) es t refl h own (λ us each again. each)

    pub flips : (es ts : Trees) → AllBack which table (λ i. false) es ts → AllBack which table (λ i. true) ts ts → AllBack which table (λ i. true) es ts
    flips none none h own = refl
    flips none (more u us) h own = cc
    flips (more t ts) none h own = cc
    flips (more t ts) (more u us) h own =
        ap₂ more (flip t u (ap (λ vs. head_of vs t) h) (ap (λ vs. head_of vs t) own)) (flips ts us (ap rest_of h) (ap rest_of own))

module _ (which : ImportRule) (table : Table) (monotone : IsMonotone table) where
  pub back-most : (w : Bool) (e t : Tree) → Back which table w e t → IsAtMost (shape table t) (shape table e)
  back-most w e t h = subst (λ s. IsAtMost s (shape table e)) (back-shape which table w e t h) (after-most which table monotone w e)

  pub back-own : (w later : Bool) → (later ≡ true → w ≡ true) → (e t : Tree) → Back which table w e t → Back which table later t t
  back-own w later fall e t h = subst (λ u. Back which table later u u) h (again which table monotone w later fall e)

  -- the flip, both ways
  pub flips_exactly : (e t : Tree) → Back which table false e t → Back which table true e t ↔ Back which table true t t
  flips_exactly e t h = (λ back. back-own true true (λ x. x) e t back, λ own. flip which table e t h own)
