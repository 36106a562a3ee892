-- An export is told by its trials alone.
--   set-import  the flags of a formula do not matter to its import
--   comes_back  so that of a formula is told by the formulas with all flags set
--   drop_fits   where a trial fits, the formula without that `@` comes back
--   exact       where none fits, the formula is an export
use Rattle.std.proofs.Common.{◌≡◌, ◌↔◌, ℕ, zero, suc, ◌+◌, [], ◌∷◌, Bool, true, false, not, ◌&&◌, ◌||◌, if◌then◌else◌, inl, inr, refl, sym, ap, ap₂, ◌∙◌, subst}
use Rattle.std.proofs.lemmas.List.{length-map}
use Rattle.kind_table.specs.declared.static_result.StaticResult.TheVariants.{Scalar}
use Rattle.kind_table.specs.Table.{Table}
use Rattle.tree_core.specs.Count.{ats_of, ats_of_all}
use Rattle.tree_core.specs.Flags.{told_flag, told_run, told, all_told}
use Rattle.tree_core.specs.Label.{Label, leaf, passing, spill, closed, call}
use Rattle.tree_core.specs.Tree.{Run, Tree, tree, Trees, none, more}
use Rattle.tree_core.specs.Place.{Place}
use Rattle.tree_core.proofs.Told.{alike}
use Rattle.shape_core.specs.Shape.{node_shape, shape, shapes, shown, shown_all}
use Rattle.import_core.specs.declared.rule.ImportRule.{ImportRule}
use Rattle.import_core.specs.After.{after, after_all, context, is_range_like, wants_one}
use Rattle.import_core.specs.Dropped.{IsSubsequence, Dropped}
use Rattle.import_core.specs.ComesBack.{ComesBack}
use Rattle.import_core.specs.Exported.{Exported}
use Rattle.import_core.specs.Imported.{merged_run}
use Rattle.import_core.specs.ImportOf.{is_bare, opens, import_of}
use Rattle.import_core.specs.ImportRule.{import_rule, is_closed}
use Rattle.import_core.proofs.Below.{import_all, root_run, import_of-open, import_of-shut}
use Rattle.import_core.proofs.Settle.{IsMonotone}
use Rattle.import_core.proofs.Shows.{any_children}
use Rattle.import_core.proofs.Trimmed.{Trimmed, AllTrimmed, trims_of}
use Rattle.export_marks.proofs.Back.{Back}
use Rattle.export_marks.specs.Bared.{bared, bared_in}
use Rattle.export_marks.specs.Trial.{IsWay}
use Rattle.export_marks.proofs.Trials.{Fits, trial}
use Rattle.export_marks.proofs.Least.{least}

pub set-bare : (run : Run) → is_bare (told_run false run) ≡ is_bare run
set-bare [] = refl
set-bare (flag ∷ run) = refl

set-merged : (run : Run) → merged_run (told_run false run) ≡ told_run false (merged_run run)
set-merged [] = refl
set-merged (flag ∷ []) = refl
set-merged (outer ∷ flag ∷ run) = set-merged (flag ∷ run)

set-root : (b : Bool) (run : Run) → (if b then true ∷ [] else merged_run (told_run false run)) ≡ told_run false (if b then true ∷ [] else merged_run run)
set-root true run = refl
set-root false run = set-merged run

set-shown : (t : Tree) → shown (told false t) ≡ shown t
set-shown (tree [] label ts) = any_children label (all_told false ts) ts
set-shown (tree (flag ∷ run) label ts) = refl

sets-shown : (ts : Trees) → shown_all (all_told false ts) ≡ shown_all ts
sets-shown none = refl
sets-shown (more t ts) = ap₂ (λ s ss. s ∷ ss) (set-shown t) (sets-shown ts)

module _ (which : ImportRule) (table : Table) where
  mutual
    pub set-shape : (t : Tree) → shape table (told false t) ≡ shape table t
    set-shape (tree [] label ts) = ap₂ (node_shape table label) (sets-shown ts) (sets-shapes ts)
    set-shape (tree (flag ∷ run) label ts) = refl

    sets-shapes : (ts : Trees) → shapes table (all_told false ts) ≡ shapes table ts
    sets-shapes none = refl
    sets-shapes (more t ts) = ap₂ (λ s ss. s ∷ ss) (set-shape t) (sets-shapes ts)

  pub set-context : (w : Bool) (label : Label) (ts : Trees) → context which table w label (all_told false ts) ≡ context which table w label ts
  set-context w (leaf l) ts = refl
  set-context w (passing p) ts = refl
  set-context w spill ts = refl
  set-context w (closed c) ts = refl
  set-context w (call kind) ts = ap (λ ss i. wants_one which table kind ss i) (sets-shapes ts)

  mutual
    set-after : (w : Bool) (t : Tree) → after which table w (told false t) ≡ after which table w t
    set-after w (tree [] label ts) = ap₂ (λ shows ss. if w && is_range_like table label shows ss then Scalar else node_shape table label shows ss) (sets-shown ts)
        (ap (λ contexts. after_all which table contexts (all_told false ts)) (set-context w label ts) ∙ sets-after (context which table w label ts) ts)
    set-after w (tree (flag ∷ run) label ts) = refl

    sets-after : (contexts : ℕ → Bool) (ts : Trees) → after_all which table contexts (all_told false ts) ≡ after_all which table contexts ts
    sets-after contexts none = refl
    sets-after contexts (more t ts) = ap₂ (λ s ss. s ∷ ss) (set-after (contexts 0) t) (sets-after (λ i. contexts (suc i)) ts)

  pub set-like : (label : Label) (ts : Trees) → (import_rule which table).range_like label (all_told false ts) ≡ (import_rule which table).range_like label ts
  set-like label ts = ap₂ (is_range_like table label) (sets-shown ts)
      (ap (λ contexts. after_all which table contexts (all_told false ts)) (set-context false label ts) ∙ sets-after (context which table false label ts) ts)

  mutual
    pub set-import : (w : Bool) (t : Tree) → import_of (import_rule which table) w (told false t) ≡ told false (import_of (import_rule which table) w t)
    set-import w (tree run label ts) =
        let rule = import_rule which table in
        let same : opens rule w (told false (tree run label ts)) ≡ opens rule w (tree run label ts) = ap₂ (λ b c. not (is_closed label) && (b || (w && c))) (set-bare run) (set-like label ts) in
        let root : root_run rule w (told_run false run) label (all_told false ts) ≡ told_run false (root_run rule w run label ts) =
        ap (λ c. if w && c then true ∷ [] else merged_run (told_run false run)) (set-like label ts) ∙ set-root (w && rule.range_like label ts) run in
        elim (opens rule w (tree run label ts)) as (λ b. opens rule w (tree run label ts) ≡ b → import_of rule w (told false (tree run label ts)) ≡ told false (import_of rule w (tree run label ts))) [
          | true ↦ λ e. import_of-open rule w (told_run false run) label (all_told false ts) (same ∙ e)
              ∙ ap₂ (λ r us. tree r label us) root (ap (λ contexts. import_all rule contexts (all_told false ts)) (set-context w label ts) ∙ sets-import (context which table w label ts) ts)
              ∙ sym (ap (told false) (import_of-open rule w run label ts e))
          | false ↦ λ e. import_of-shut rule w (told_run false run) label (all_told false ts) (same ∙ e) ∙ ap (λ r. tree r label (all_told false ts)) root ∙ sym (ap (told false) (import_of-shut rule w run label ts e))
        ] refl

    sets-import : (contexts : ℕ → Bool) (ts : Trees) → import_all (import_rule which table) contexts (all_told false ts) ≡ all_told false (import_all (import_rule which table) contexts ts)
    sets-import contexts none = refl
    sets-import contexts (more t ts) = ap₂ more (set-import (contexts 0) t) (sets-import (λ i. contexts (suc i)) ts)

  pub comes_back : (add : Bool) (import export : Tree) → ComesBack which table add import export ↔ Back which table add (told false export) (told false import)
  comes_back add import export =
      let both = alike (import_of (import_rule which table) add export) import in
      (λ back. set-import add export ∙ both.1 back, λ back. both.0 (sym (set-import add export) ∙ back))

-- ---- with all flags set

set-part : (part run : Run) → IsSubsequence part run → IsSubsequence (told_run false part) (told_run false run)
set-part [] run h = tt
set-part (flag ∷ part) [] h = absurd h
set-part (flag ∷ part) (next ∷ run) (inl h) = inl (refl, set-part part run h.1)
set-part (flag ∷ part) (next ∷ run) (inr h) = inr (set-part (flag ∷ part) run h)

mutual
  set-trimmed : (a b : Tree) → Trimmed a b → Trimmed (told false a) (told false b)
  set-trimmed (tree r l ts) (tree s m us) h = (set-part r s h.0, (h.1.0, sets-trimmed ts us h.1.1))

  sets-trimmed : (ts us : Trees) → AllTrimmed ts us → AllTrimmed (all_told false ts) (all_told false us)
  sets-trimmed none none h = tt
  sets-trimmed none (more u us) h = absurd h
  sets-trimmed (more t ts) none h = absurd h
  sets-trimmed (more t ts) (more u us) h = (set-trimmed t u h.0, sets-trimmed ts us h.1)

mutual
  set-ats : (t : Tree) → ats_of (told false t) ≡ ats_of t
  set-ats (tree run label ts) = ap₂ (λ a b. a + b) (length-map run (told_flag false)) (sets-ats ts)

  sets-ats : (ts : Trees) → ats_of_all (all_told false ts) ≡ ats_of_all ts
  sets-ats none = refl
  sets-ats (more t ts) = ap₂ (λ a b. a + b) (set-ats t) (sets-ats ts)

mutual
  pub set-bared : (t : Tree) (place : Place) → told false (bared t place) ≡ bared (told false t) place
  set-bared (tree run label ts) [] = refl
  set-bared (tree run label ts) (i ∷ place) = ap (tree (told_run false run) label) (sets-bared ts i place)

  pub sets-bared : (ts : Trees) (i : ℕ) (place : Place) → all_told false (bared_in ts i place) ≡ bared_in (all_told false ts) i place
  sets-bared none i place = refl
  sets-bared (more t ts) zero place = ap (λ u. more u (all_told false ts)) (set-bared t place)
  sets-bared (more t ts) (suc i) place = ap (more (told false t)) (sets-bared ts i place)

module _ (which : ImportRule) (table : Table) (monotone : IsMonotone table) (add : Bool) (import export : Tree) where
  -- a trial is exact
  pub drop_fits : (place : Place) → IsWay which table add (told false export) (told false import) place → ComesBack which table add import export
      → ComesBack which table add import (bared export place) ↔ Fits which table add (told false export) (told false import) place
  drop_fits place way back =
      let both = trial which table monotone place add (told false export) (told false import) way ((comes_back which table add import export).0 back) in
      let there = comes_back which table add import (bared export place) in (
        λ h. both.0 (subst (λ u. Back which table add u (told false import)) (set-bared export place) (there.0 h)),
        λ fits. there.1 (subst (λ u. Back which table add u (told false import)) (sym (set-bared export place)) (both.1 fits)),
      )

  -- where no trial fits, it is an export
  pub exact : Dropped export import → ComesBack which table add import export
      → ((place : Place) → IsWay which table add (told false export) (told false import) place → ¬ Fits which table add (told false export) (told false import) place)
      → Exported (import_rule which table) add import export
  exact dropped back never = record {
    dropped = dropped;
    comes_back = back;
    least = λ further one again. (
        let h = (comes_back which table add import export).0 back in
        let x = (comes_back which table add import further).0 again in
        let found = least which table monotone add add (told false export) (told false further) (told false import) (λ same. refl)
        (set-trimmed further export (trims_of further export one.dropped)) (set-trimmed export import (trims_of export import dropped))
        (set-ats export ∙ one.one_fewer ∙ ap (λ n. n + 1) (sym (set-ats further))) h x in
        never found.place found.way ((trial which table monotone found.place add (told false export) (told false import) found.way h).0 (subst (λ u. Back which table add u (told false import)) found.is x)));
  }
