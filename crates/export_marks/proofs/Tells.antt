-- What is computed on the way is what is asked.
--   settles_is  a formula is its own import, flags aside
--   fits_is     a trial fits
--   way_is      the way is open
--   trial_by    so a trial tells whether the formula comes back after the drop
--   exact_by    and where no trial fits, the formula is an export
--   never_lower, turning  a drop that can succeed lowers no shape; what a context that turns true does is a constant
use Rattle.std.proofs.Common.{◌≡◌, ◌↔◌, ℕ, zero, suc, [], ◌∷◌, length, ◌≤◌, Bool, true, false, not, ◌&&◌, ◌||◌, if◌then◌else◌, refl, sym, ap, ap₂, ◌∙◌, subst, arith}
use Rattle.std.proofs.lemmas.Bool.{and_parts, and_from, false≢true}
use Rattle.kind_table.specs.Shape.{IsAtMost}
use Rattle.kind_table.specs.Table.{Table}
use Rattle.shape_core.specs.Shape.{shape}
use Rattle.tree_core.specs.Flags.{told_run, told, all_told}
use Rattle.tree_core.specs.Label.{Label}
use Rattle.tree_core.specs.Tree.{Run, Tree, tree, Trees, none, more, run_of, children_of}
use Rattle.tree_core.specs.Place.{Place}
use Rattle.import_core.specs.declared.rule.ImportRule.{ImportRule}
use Rattle.import_core.specs.After.{context}
use Rattle.import_core.specs.Dropped.{Dropped}
use Rattle.import_core.specs.ComesBack.{ComesBack}
use Rattle.import_core.specs.Exported.{Exported}
use Rattle.import_core.specs.Imported.{merged_run}
use Rattle.import_core.specs.ImportOf.{is_bare, opens}
use Rattle.import_core.specs.ImportRule.{import_rule, is_closed}
use Rattle.import_core.proofs.Below.{import_all, root_run, import_of-open, import_of-shut}
use Rattle.import_core.proofs.Settle.{IsMonotone}
use Rattle.export_marks.proofs.Back.{Back, AllBack, flips_exactly, head_of, rest_of}
use Rattle.export_marks.specs.Bared.{bared, bared_in}
use Rattle.export_marks.specs.Trial.{IsWay, IsWayIn, run_settles, settles, settle, fits, fits_in}
use Rattle.export_marks.proofs.Trials.{Fits, FitsIn, rises}
use Rattle.export_marks.proofs.FlagsSet.{comes_back, set-bare, set-context, set-like, set-bared, set-shape, sets-bared, drop_fits, exact}

merged-short : (run : Run) → length (merged_run run) ≤ 1
merged-short [] = omega arith
merged-short (flag ∷ []) = omega arith
merged-short (outer ∷ flag ∷ run) = merged-short (flag ∷ run)

run_is : (b : Bool) (run : Run) → (run_settles b run ≡ true) ↔ ((if b then true ∷ [] else merged_run (told_run false run)) ≡ told_run false run)
run_is true [] = (λ h. cc, λ h. cc)
run_is true (flag ∷ []) = (λ h. refl, λ h. refl)
run_is true (outer ∷ flag ∷ run) = (λ h. cc, λ h. cc)
run_is false [] = (λ h. refl, λ h. refl)
run_is false (flag ∷ []) = (λ h. refl, λ h. refl)
run_is false (outer ∷ flag ∷ run) = (
  λ h. cc,
  λ h. (let short : length (merged_run (told_run false (outer ∷ flag ∷ run))) ≤ 1 = merged-short (told_run false (outer ∷ flag ∷ run)) in
      let same : length (merged_run (told_run false (outer ∷ flag ∷ run))) ≡ length (told_run false (outer ∷ flag ∷ run)) = ap length h in
      absurd (omega arith)),
)

module _ (which : ImportRule) (table : Table) where
  rule-run : (w : Bool) (run : Run) (label : Label) (ts : Trees)
      → root_run (import_rule which table) w (told_run false run) label (all_told false ts) ≡ (if w && (import_rule which table).range_like label ts then true ∷ [] else merged_run (told_run false run))
  rule-run w run label ts = ap (λ c. if w && c then true ∷ [] else merged_run (told_run false run)) (set-like which table label ts)

  open_same : (w : Bool) (run : Run) (label : Label) (ts : Trees) → opens (import_rule which table) w (told false (tree run label ts)) ≡ opens (import_rule which table) w (tree run label ts)
  open_same w run label ts = ap₂ (λ b c. not (is_closed label) && (b || (w && c))) (set-bare run) (set-like which table label ts)

  mutual
    pub settles_is : (w : Bool) (t : Tree) → (settles which table w t ≡ true) ↔ Back which table w (told false t) (told false t)
    settles_is w (tree run label ts) =
        let rule = import_rule which table in
        let root = run_is (w && rule.range_like label ts) run in
        let below = settle_is (context which table w label ts) ts in
        let same = set-context which table w label ts in
        elim (opens rule w (tree run label ts)) as (λ b. opens rule w (tree run label ts) ≡ b
        → ((run_settles (w && rule.range_like label ts) run && (not b || settle which table (context which table w label ts) ts)) ≡ true) ↔ Back which table w (told false (tree run label ts)) (told false (tree run label ts))) [
          | true ↦ λ e. (
            λ h. (let both = and_parts (run_settles (w && rule.range_like label ts) run) _ h in
                import_of-open rule w (told_run false run) label (all_told false ts) (open_same w run label ts ∙ e)
                ∙ ap₂ (λ r us. tree r label us) (rule-run w run label ts ∙ root.0 both.0) (subst (λ c. AllBack which table c (all_told false ts) (all_told false ts)) (sym same) (below.0 both.1))),
            λ h. (let all : tree (root_run rule w (told_run false run) label (all_told false ts)) label (import_all rule (context which table w label (all_told false ts)) (all_told false ts)) ≡ told false (tree run label ts) =
                sym (import_of-open rule w (told_run false run) label (all_told false ts) (open_same w run label ts ∙ e)) ∙ h in
                and_from _ _ (root.1 (sym (rule-run w run label ts) ∙ ap run_of all)) (below.1 (subst (λ c. AllBack which table c (all_told false ts) (all_told false ts)) same (ap children_of all)))),
          )
          | false ↦ λ e. (
            λ h. (let both = and_parts (run_settles (w && rule.range_like label ts) run) _ h in
                import_of-shut rule w (told_run false run) label (all_told false ts) (open_same w run label ts ∙ e) ∙ ap (λ r. tree r label (all_told false ts)) (rule-run w run label ts ∙ root.0 both.0)),
            λ h. (let all : tree (root_run rule w (told_run false run) label (all_told false ts)) label (all_told false ts) ≡ told false (tree run label ts) =
                sym (import_of-shut rule w (told_run false run) label (all_told false ts) (open_same w run label ts ∙ e)) ∙ h in
                and_from _ _ (root.1 (sym (rule-run w run label ts) ∙ ap run_of all)) refl),
          )
        ] refl

    pub settle_is : (contexts : ℕ → Bool) (ts : Trees) → (settle which table contexts ts ≡ true) ↔ AllBack which table contexts (all_told false ts) (all_told false ts)
    settle_is contexts none = (λ h. refl, λ h. refl)
    settle_is contexts (more t ts) =
        let first = settles_is (contexts 0) t in
        let others = settle_is (λ i. contexts (suc i)) ts in (
          λ h. (let both = and_parts (settles which table (contexts 0) t) _ h in ap₂ more (first.0 both.0) (others.0 both.1)),
          λ h. and_from _ _ (first.1 (ap (λ us. head_of us t) h)) (others.1 (ap (rest_of) h)),
        )

  -- ---- a trial

  allowed : (now next own : Bool) → ((if now then next else (not next || own)) ≡ true) ↔ ((now ≡ true → next ≡ true) × (now ≡ false → next ≡ true → own ≡ true))
  allowed true true own = (λ h. (λ a. refl, λ a b. cc), λ h. refl)
  allowed true false own = (λ h. cc, λ h. h.0 refl)
  allowed false true own = (λ h. (λ a. refl, λ a b. h), λ h. h.1 refl refl)
  allowed false false own = (λ h. (λ a. cc, λ a b. cc), λ h. refl)

  mutual
    pub fits_is : (place : Place) (w : Bool) (e t : Tree) → (fits which table w e t place ≡ true) ↔ Fits which table w (told false e) (told false t) place
    fits_is [] w (tree r l es) (tree s m ts) = (
      λ h. (let both = and_parts w _ h in (both.0, set-like which table m ts ∙ both.1)),
      λ h. and_from w _ h.0 (sym (set-like which table m ts) ∙ h.1),
    )
    fits_is (i ∷ place) w (tree r l es) (tree s m ts) =
        let now : context which table w l (all_told false es) i ≡ context which table w l es i = ap (λ c. c i) (set-context which table w l es) in
        let next : context which table w l (bared_in (all_told false es) i place) i ≡ context which table w l (bared_in es i place) i =
        ap (λ us. context which table w l us i) (sym (sets-bared es i place)) ∙ ap (λ c. c i) (set-context which table w l (bared_in es i place)) in
        let both = fits_in_is es ts i place (context which table w l es i) (context which table w l (bared_in es i place) i) in (
          λ h. subst (λ b. FitsIn which table b (context which table w l (bared_in (all_told false es) i place) i) (all_told false es) (all_told false ts) i place) (sym now)
              (subst (λ b. FitsIn which table (context which table w l es i) b (all_told false es) (all_told false ts) i place) (sym next) (both.0 h)),
          λ h. both.1 (subst (λ b. FitsIn which table (context which table w l es i) b (all_told false es) (all_told false ts) i place) next
              (subst (λ b. FitsIn which table b (context which table w l (bared_in (all_told false es) i place) i) (all_told false es) (all_told false ts) i place) now h)),
        )

    pub fits_in_is : (es ts : Trees) (i : ℕ) (place : Place) (now next : Bool) → (fits_in which table now next es ts i place ≡ true) ↔ FitsIn which table now next (all_told false es) (all_told false ts) i place
    fits_in_is none ts i place now next = (λ h. cc, λ h. absurd h)
    fits_in_is (more e es) none i place now next = (λ h. cc, λ h. absurd h)
    fits_in_is (more e es) (more t ts) zero place now next =
        let own = settles_is true t in
        let way = allowed now next (settles which table true t) in
        let rest = fits_is place next e t in (
          λ h. (let both = and_parts (if now then next else (not next || settles which table true t)) _ h in
              let a = way.0 both.0 in (a.0, (λ low high. own.0 (a.1 low high), rest.0 both.1))),
          λ h. and_from _ _ (way.1 (h.0, λ low high. own.1 (h.1.0 low high))) (rest.1 h.1.1),
        )
    fits_in_is (more e es) (more t ts) (suc i) place now next = fits_in_is es ts i place now next

  open_is : (w : Bool) (r : Run) (m : Label) (ts : Trees) → (is_bare (told_run false r) || (w && (import_rule which table).range_like m (all_told false ts))) ≡ (is_bare r || (w && (import_rule which table).range_like m ts))
  open_is w r m ts = ap₂ (λ b c. b || (w && c)) (set-bare r) (set-like which table m ts)

  mutual
    pub way_is : (place : Place) (w : Bool) (e t : Tree) → IsWay which table w (told false e) (told false t) place ↔ IsWay which table w e t place
    way_is [] w (tree r l es) (tree s m ts) = (λ h. sym (set-bare r) ∙ h, λ h. set-bare r ∙ h)
    way_is (i ∷ place) w (tree r l es) (tree s m ts) =
        let below = way_in_is es ts i place (context which table w l es) in
        let same = set-context which table w l es in (
          λ h. (sym (open_is w r m ts) ∙ h.0, (h.1.0, below.0 (subst (λ c. IsWayIn which table c (all_told false es) (all_told false ts) i place) same h.1.1))),
          λ h. (open_is w r m ts ∙ h.0, (h.1.0, subst (λ c. IsWayIn which table c (all_told false es) (all_told false ts) i place) (sym same) (below.1 h.1.1))),
        )

    pub way_in_is : (es ts : Trees) (i : ℕ) (place : Place) (now : ℕ → Bool) → IsWayIn which table now (all_told false es) (all_told false ts) i place ↔ IsWayIn which table now es ts i place
    way_in_is none ts i place now = (λ h. absurd h, λ h. absurd h)
    way_in_is (more e es) none i place now = (λ h. absurd h, λ h. absurd h)
    way_in_is (more e es) (more t ts) zero place now = way_is place (now 0) e t
    way_in_is (more e es) (more t ts) (suc i) place now = way_in_is es ts i place (λ j. now (suc j))

module _ (which : ImportRule) (table : Table) (monotone : IsMonotone table) (add : Bool) (import export : Tree) where
  pub trial_by : (place : Place) → IsWay which table add export import place → ComesBack which table add import export
      → ComesBack which table add import (bared export place) ↔ (fits which table add export import place ≡ true)
  trial_by place way back =
      let both = drop_fits which table monotone add import export place ((way_is which table place add export import).1 way) back in
      let computed = fits_is which table place add export import in
      (λ h. computed.1 (both.0 h), λ h. both.1 (computed.0 h))

  pub exact_by : Dropped export import → ComesBack which table add import export
      → ((place : Place) → IsWay which table add export import place → fits which table add export import place ≡ false) → Exported (import_rule which table) add import export
  exact_by dropped back never = exact which table monotone add import export dropped back
      (λ place way h. false≢true (sym (never place ((way_is which table place add export import).0 way)) ∙ (fits_is which table place add export import).1 h))

module _ (which : ImportRule) (table : Table) (monotone : IsMonotone table) where
  -- a drop that can succeed never lowers a shape
  pub never_lower : (add : Bool) (import formula : Tree) (place : Place) → IsWay which table add formula import place → ComesBack which table add import formula → ComesBack which table add import (bared formula place)
      → IsAtMost (shape table formula) (shape table (bared formula place))
  never_lower add import formula place way back further =
      let h = (comes_back which table add import formula).0 back in
      let x = (comes_back which table add import (bared formula place)).0 further in
      let up = rises which table monotone place add add add (told false formula) (told false import) ((way_is which table place add formula import).1 way) h
      (subst (λ u. Back which table add u (told false import)) (set-bared formula place) x) in
      subst (λ s. IsAtMost s (shape table (bared formula place))) (set-shape which table formula)
      (subst (λ s. IsAtMost (shape table (told false formula)) s) (ap (shape table) (sym (set-bared formula place)) ∙ set-shape which table (bared formula place)) up)

  -- what a context that turns true does is a constant
  pub turning : (import formula : Tree) → ComesBack which table false import formula → ComesBack which table true import formula ↔ ComesBack which table true import import
  turning import formula back =
      let both = flips_exactly which table monotone (told false formula) (told false import) ((comes_back which table false import formula).0 back) in (
        λ h. (comes_back which table true import import).1 (both.0 ((comes_back which table true import formula).0 h)),
        λ own. (comes_back which table true import formula).1 (both.1 ((comes_back which table true import import).0 own)),
      )
