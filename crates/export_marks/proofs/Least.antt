-- Where a formula that comes back still does with one `@` less, that `@` stands where import reaches.
--   least   the formula with one `@` less is the one without the `@`s over a place, and the way there is open
use Rattle.std.proofs.Common.{◌≡◌, ℕ, suc, ◌+◌, ◌≤◌, [], ◌∷◌, length, Bool, true, false, not, ◌&&◌, ◌||◌, if◌then◌else◌, inl, inr, refl, sym, ap, ap₂, ◌∙◌, subst, arith}
use Rattle.std.proofs.lemmas.Bool.{and_parts, and_from}
use Rattle.kind_table.specs.Table.{Table}
use Rattle.tree_core.specs.Count.{ats_of, ats_of_all}
use Rattle.tree_core.specs.Label.{Label, leaf, passing, spill, closed, call}
use Rattle.tree_core.specs.Tree.{Run, Tree, tree, Trees, none, more, run_of, children_of}
use Rattle.tree_core.specs.Place.{Place}
use Rattle.shape_core.specs.Shape.{passed, shape, shapes}
use Rattle.import_core.specs.declared.rule.ImportRule.{ImportRule}
use Rattle.import_core.specs.After.{context, wants_one}
use Rattle.import_core.specs.Dropped.{IsSubsequence}
use Rattle.import_core.specs.Imported.{merged_run}
use Rattle.import_core.specs.ImportOf.{is_bare, opens, import_of}
use Rattle.import_core.specs.ImportRule.{import_rule, is_closed}
use Rattle.import_core.proofs.Below.{root_run, import_of-open, import_of-shut}
use Rattle.import_core.proofs.Settle.{IsMonotone}
use Rattle.export_marks.proofs.Sums.{one_part}
use Rattle.import_core.proofs.Trimmed.{Trimmed, AllTrimmed, sub-length, sub-same, fewer, all_fewer, trimmed-same, all_trimmed-same}
use Rattle.export_marks.proofs.Back.{Back, AllBack, back-children, head_of, rest_of}
use Rattle.export_marks.specs.Bared.{bared, bared_in}
use Rattle.export_marks.specs.Trial.{IsWay, IsWayIn}
use Rattle.export_marks.proofs.Trials.{opened, like-kept}

pub record Found (which : ImportRule) (table : Table) (w : Bool) (e x t : Tree) : Type 0 where
  pub place : Place
  pub is : x ≡ bared e place
  pub way : IsWay which table w e t place

record FoundIn (which : ImportRule) (table : Table) (now : ℕ → Bool) (es xs ts : Trees) : Type 0 where
  child : ℕ
  place : Place
  is : xs ≡ bared_in es child place
  way : IsWayIn which table now es ts child place

merged-short : (run : Run) → length (merged_run run) ≤ 1
merged-short [] = omega arith
merged-short (flag ∷ []) = omega arith
merged-short (outer ∷ flag ∷ run) = merged-short (flag ∷ run)

root-short : (b : Bool) (run : Run) → length (if b then true ∷ [] else merged_run run) ≤ 1
root-short true run = omega arith
root-short false run = merged-short run

no_run : (run : Run) → length run ≤ 0 → run ≡ []
no_run [] h = refl
no_run (flag ∷ run) h = absurd (omega arith)

some_run : (run : Run) (n : ℕ) → length run ≡ n + 1 → is_bare run ≡ false
some_run [] n h = absurd (omega arith)
some_run (flag ∷ run) n h = refl

module _ (which : ImportRule) (table : Table) where
  contexts-same : (w v : Bool) (run : Run) (label : Label) (es xs : Trees) → (shape table (tree run label es) ≡ shape table (tree run label xs) → w ≡ v)
      → shapes table es ≡ shapes table xs → (j : ℕ) → context which table w label es j ≡ context which table v label xs j
  contexts-same w v run (leaf l) es xs same h j = refl
  contexts-same w v [] (passing p) es xs same h j = same (ap passed h)
  contexts-same w v (flag ∷ run) (passing p) es xs same h j = same refl
  contexts-same w v [] spill es xs same h j = same refl
  contexts-same w v (flag ∷ run) spill es xs same h j = same refl
  contexts-same w v run (closed c) es xs same h j = refl
  contexts-same w v run (call kind) es xs same h j = ap (λ ss. wants_one which table kind ss j) h

module _ (which : ImportRule) (table : Table) (monotone : IsMonotone table) where
  -- the `@` stood over the root
  at_root : (w : Bool) (run : Run) (l : Label) (es : Trees) (q s : Run) (ts : Trees) → length run ≡ length q + 1 → IsSubsequence run s → Back which table w (tree run l es) (tree s l ts)
      → Found which table w (tree run l es) (tree q l es) (tree s l ts)
  at_root w run l es q s ts count part h =
      let short : length (root_run (import_rule which table) w run l es) ≤ 1 = root-short (w && (import_rule which table).range_like l es) run in
      let same : length (root_run (import_rule which table) w run l es) ≡ length s = ap (λ t. length (run_of t)) h in
      let most : length run ≤ length s = sub-length run s part in
      let bare : q ≡ [] = no_run q (omega arith) in
      record { place = []; is = ap (λ r. tree r l es) bare; way = some_run run (length q) count }

  -- it stood below
  open_now : (w v : Bool) (run : Run) (l : Label) (es xs ts : Trees) → (shape table (tree run l es) ≡ shape table (tree run l xs) → w ≡ v)
      → (is_bare run || (v && (import_rule which table).range_like l xs)) ≡ true → AllBack which table (context which table v l xs) xs ts → (is_bare run || (w && (import_rule which table).range_like l ts)) ≡ true
  open_now w v [] l es xs ts same h each = refl
  open_now w v (flag ∷ run) l es xs ts same h each =
      let both = and_parts v _ h in
      and_from w _ (same refl ∙ both.0) (sym (like-kept which table monotone v l xs ts (λ k. each)) ∙ both.1)

  below_root : (w v : Bool) (run : Run) (l : Label) (es xs : Trees) (s : Run) (ts : Trees) → (shape table (tree run l es) ≡ shape table (tree run l xs) → w ≡ v)
      → AllTrimmed es ts → ats_of_all es ≡ ats_of_all xs + 1 → Back which table w (tree run l es) (tree s l ts) → Back which table v (tree run l xs) (tree s l ts)
      → ((now next : ℕ → Bool) → (shapes table es ≡ shapes table xs → (j : ℕ) → now j ≡ next j) → AllBack which table now es ts → AllBack which table next xs ts → FoundIn which table now es xs ts)
      → Found which table w (tree run l es) (tree run l xs) (tree s l ts)
  below_root w v run l es xs s ts same part count h back found =
      let rule = import_rule which table in
      let most : ats_of_all es ≤ ats_of_all ts = all_fewer es ts part in
      let entered_or : (k : Bool) → is_closed l ≡ k → opens rule v (tree run l xs) ≡ true → k ≡ false = λ k e o. (let kept : (not k && (is_bare run || (v && rule.range_like l xs))) ≡ true = subst (λ c. (not c && (is_bare run || (v && rule.range_like l xs))) ≡ true) e o in not_closed k _ kept) in
      elim (opens rule v (tree run l xs)) as (λ b. opens rule v (tree run l xs) ≡ b → Found which table w (tree run l es) (tree run l xs) (tree s l ts)) [
        | false ↦ λ shut. (let kept : xs ≡ ts = ap children_of (sym (import_of-shut rule v run l xs shut) ∙ back) in
            let long : ats_of_all xs ≡ ats_of_all ts = ap ats_of_all kept in
            absurd (omega arith))
        | true ↦ λ is_open. (let entered : is_closed l ≡ false = not_closed (is_closed l) _ is_open in
            let each_x : AllBack which table (context which table v l xs) xs ts = ap children_of (sym (import_of-open rule v run l xs is_open) ∙ back) in
            let here : (is_bare run || (w && rule.range_like l ts)) ≡ true = open_now w v run l es xs ts same (and_parts (not (is_closed l)) _ is_open).1 each_x in
            let each : AllBack which table (context which table w l es) es ts = back-children which table w l es s l ts entered (opened which table monotone w run l es s ts here h) in
            let deeper = found (context which table w l es) (context which table v l xs) (contexts-same which table w v run l es xs same) each each_x in
            record { place = deeper.child ∷ deeper.place; is = ap (tree run l) deeper.is; way = (here, (entered, deeper.way)) })
      ] refl
    where
      not_closed : (k c : Bool) → (not k && c) ≡ true → k ≡ false
      not_closed true c h = cc
      not_closed false c h = refl

  mutual
    pub least : (w v : Bool) (e x t : Tree) → (shape table e ≡ shape table x → w ≡ v) → Trimmed x e → Trimmed e t → ats_of e ≡ ats_of x + 1 → Back which table w e t → Back which table v x t → Found which table w e x t
    least w v (tree r l es) (tree q k xs) (tree s m ts) same less part count h back =
        let rule = import_rule which table in
        let h_l : Back which table w (tree r l es) (tree s l ts) = h ∙ ap (λ n. tree s n ts) (sym part.1.0) in
        let back_l : Back which table v (tree q l xs) (tree s l ts) = ap (λ n. import_of rule v (tree q n xs)) (sym less.1.0) ∙ back ∙ ap (λ n. tree s n ts) (sym part.1.0) in
        let found : Found which table w (tree r l es) (tree q l xs) (tree s l ts) =
        elim (one_part (length q) (length r) (ats_of_all xs) (ats_of_all es) (sub-length q r less.0) (all_fewer xs es less.1.1) (omega arith)) [
          | inl first ↦ (let kept : xs ≡ es = all_trimmed-same xs es less.1.1 first.1 in
              let one = at_root w r l es q s ts first.0 part.0 h_l in
              record { place = one.place; is = ap (tree q l) kept ∙ one.is; way = one.way })
          | inr later ↦ (let kept : q ≡ r = sub-same q r less.0 later.0 in
              let same_r : shape table (tree r l es) ≡ shape table (tree r l xs) → w ≡ v =
              λ e. same (e ∙ ap (λ u. shape table (tree u l xs)) (sym kept) ∙ ap (λ n. shape table (tree q n xs)) (sym less.1.0)) in
              let one = below_root w v r l es xs s ts same_r part.1.1 later.1 h_l (ap (λ u. import_of rule v (tree u l xs)) (sym kept) ∙ back_l)
              (λ now next rest each each_x. least_in now next es xs ts rest less.1.1 part.1.1 later.1 each each_x) in
              record { place = one.place; is = ap (λ u. tree u l xs) kept ∙ one.is; way = one.way })
        ] in
        record { place = found.place; is = ap (λ n. tree q n xs) less.1.0 ∙ found.is; way = subst (λ n. IsWay which table w (tree r l es) (tree s n ts) found.place) part.1.0 found.way }

    least_in : (now next : ℕ → Bool) (es xs ts : Trees) → (shapes table es ≡ shapes table xs → (j : ℕ) → now j ≡ next j) → AllTrimmed xs es → AllTrimmed es ts → ats_of_all es ≡ ats_of_all xs + 1
        → AllBack which table now es ts → AllBack which table next xs ts → FoundIn which table now es xs ts
    least_in now next none none ts same less part count h back = absurd (omega arith)
    least_in now next none (more x xs) ts same less part count h back = absurd less
    least_in now next (more e es) none ts same less part count h back = absurd less
    least_in now next (more e es) (more x xs) none same less part count h back = absurd part
    least_in now next (more e es) (more x xs) (more t ts) same less part count h back =
        elim (one_part (ats_of x) (ats_of e) (ats_of_all xs) (ats_of_all es) (fewer x e less.0) (all_fewer xs es less.1) (omega arith)) [
          | inl first ↦ (let rest : xs ≡ es = all_trimmed-same xs es less.1 first.1 in
              let one = least (now 0) (next 0) e x t (λ se. same (ap₂ (λ a b. a ∷ b) se (ap (shapes table) (sym rest))) 0) less.0 part.0 first.0 (ap (λ us. head_of us t) h) (ap (λ us. head_of us t) back) in
              record { child = 0; place = one.place; is = ap₂ more one.is rest; way = one.way })
          | inr later ↦ (let kept : x ≡ e = trimmed-same x e less.0 later.0 in
              let deeper = least_in (λ j. now (suc j)) (λ j. next (suc j)) es xs ts (λ ss j. same (ap₂ (λ a b. a ∷ b) (ap (shape table) (sym kept)) ss) (suc j)) less.1 part.1 later.1 (ap (rest_of) h) (ap (rest_of) back) in
              record { child = suc deeper.child; place = deeper.place; is = ap₂ more kept deeper.is; way = deeper.way })
        ]
