-- What is told of a formula without the `@`s that import puts is whether it comes back.
--   tells, tells_from   so with all flags set, and so of parts
--   returns-tells       so of the formula
use Rattle.std.proofs.Common.{◌≡◌, ◌↔◌, ℕ, suc, ◌+◌, Bool, true, false, not, ◌&&◌, ◌||◌, if◌then◌else◌, [], ◌∷◌, length, slice_get, Some, refl, sym, ap, ap₂, ◌∙◌, subst, arith}
use Rattle.std.proofs.lemmas.Bool.{and_parts, and_from}
use Rattle.std.specs.Option.{option_map_or}
use Rattle.kind_table.specs.declared.static_result.StaticResult.{StaticResult}
use Rattle.kind_table.specs.Table.{Table}
use Rattle.tree_core.specs.Flags.{told_run, told, all_told}
use Rattle.tree_core.specs.Label.{Label}
use Rattle.tree_core.specs.Tree.{Run, Tree, tree, Trees, none, more, run_of}
use Rattle.shape_core.specs.Shape.{shape, shapes}
use Rattle.import_core.specs.declared.rule.ImportRule.{ImportRule}
use Rattle.import_core.specs.After.{context}
use Rattle.import_core.specs.ComesBack.{ComesBack}
use Rattle.import_core.specs.ImportOf.{is_bare, opens, import_of}
use Rattle.import_core.specs.ImportRule.{import_rule, is_closed}
use Rattle.import_core.proofs.Below.{import_of-shut}
use Rattle.import_core.proofs.Settle.{IsMonotone}
use Rattle.export_marks.specs.Trial.{run_settles, settles}
use Rattle.export_marks.proofs.Back.{Back, AllBack, back-children, back-root, head_of, like, like-back, node-back, rest_of}
use Rattle.export_marks.proofs.FlagsSet.{comes_back, set-context, set-like}
use Rattle.export_marks.proofs.Tells.{settles_is}
use Rattle.export_marks.proofs.Trials.{like-kept}
use Rattle.mark_core.specs.declared.mark.Known.{Known}
use Rattle.mark_core.specs.declared.mark.Mark.{Mark}
use Rattle.mark_core.specs.Mark.{known_of, parts_of}
use Rattle.mark_core.specs.Drop.{wants_at, wants_part}
use Rattle.import_marks.specs.Marks.{marks, all_marks, form_of}
use Rattle.import_marks.proofs.Drops.{known-marks, parts-marks, shape-marks, wants-is}
use Rattle.import_marks.proofs.Parts.{marks-count}
use Rattle.mark_return.specs.Put.{all_without_put, is_put, without_put}
use Rattle.mark_return.specs.Return.{returns_from, returns_of, returns_part, returns_run}
use Rattle.mark_return.proofs.Puts.{all_put-trimmed}

-- ---- the run over a node

-- import leaves the run that the imported formula has, where that is none or one that it puts
run_is : (put : Bool) (run : Run) (label : Label) → (is_bare run || is_put run label) ≡ true → (returns_run put run ≡ true) ↔ ((if put then true ∷ [] else []) ≡ told_run false run)
run_is true [] label gone = (λ h. cc, λ h. cc)
run_is true (flag ∷ []) label gone = (λ h. refl, λ h. refl)
run_is true (outer ∷ flag ∷ run) label gone = cc
run_is false [] label gone = (λ h. refl, λ h. refl)
run_is false (flag ∷ []) label gone = (λ h. cc, λ h. cc)
run_is false (outer ∷ flag ∷ run) label gone = cc

and_true : (b : Bool) → (b && true) ≡ b
and_true true = refl
and_true false = refl

module _ (which : ImportRule) (table : Table) where
  -- under a run that stays import changes nothing where nothing is wanted
  stays : (w : Bool) (run : Run) (label : Label) (ts : Trees) → is_bare run ≡ false
      → (if w then settles which table true (tree run label ts) else run_settles false run) ≡ settles which table w (tree run label ts)
  stays true run label ts kept = refl
  stays false [] label ts kept = cc
  stays false (flag ∷ run) label ts kept = over (is_closed label) (run_settles false (flag ∷ run)) _
    where
      over : (shut run below : Bool) → run ≡ (run && (not (not shut && false) || below))
      over true true below = refl
      over true false below = refl
      over false true below = refl
      over false false below = refl

  kept-tells : (w : Bool) (run : Run) (label : Label) (ts : Trees) → is_bare run ≡ false
      → returns_of which table w (marks which table (tree run label ts) (tree run label ts)) (tree run label ts) ≡ settles which table w (tree run label ts)
  kept-tells w run label ts kept =
      let t = tree run label ts in
      let M = marks which table t t in
      ap (λ (k : Known). if k.bare then returns_run (w && k.range_like) run && (is_closed label || returns_from which table w M 0 ts) else (if w then k.settles else run_settles false run))
      (known-marks which table run label ts run label ts)
      ∙ ap (λ b. if b then returns_run (w && (import_rule which table).range_like label ts) run && (is_closed label || returns_from which table w M 0 ts)
      else (if w then settles which table true t else run_settles false run)) kept
      ∙ stays w run label ts kept

  bare-tells : (w : Bool) (label : Label) (es : Trees) (run : Run) (ts : Trees)
      → returns_of which table w (marks which table (tree [] label es) (tree run label ts)) (tree run label ts)
      ≡ (returns_run (w && (import_rule which table).range_like label ts) run && (is_closed label || returns_from which table w (marks which table (tree [] label es) (tree run label ts)) 0 ts))
  bare-tells w label es run ts =
      let M = marks which table (tree [] label es) (tree run label ts) in
      ap (λ (k : Known). if k.bare then returns_run (w && k.range_like) run && (is_closed label || returns_from which table w M 0 ts) else (if w then k.settles else run_settles false run))
      (known-marks which table [] label es run label ts)

  -- ---- the parts of a node

  -- the marks of the parts of a node, from part i on, and the contexts of these parts
  pub record PartsFrom (w : Bool) (mark : Mark) (contexts : ℕ → Bool) (i : ℕ) (es ts : Trees) : Type 0 where
    pub part_at : (j : ℕ) → slice_get (parts_of mark) (i + j) ≡ slice_get (all_marks which table es ts) j
    pub wants : (j : ℕ) (s : StaticResult) → slice_get (shapes table es) j ≡ Some s → wants_at which table w mark (i + j) s ≡ contexts j

  parts-of : (w : Bool) (label : Label) (es : Trees) (run : Run) (ts : Trees) → is_closed label ≡ false → length (all_marks which table es ts) ≡ length (shapes table es)
      → PartsFrom w (marks which table (tree [] label es) (tree run label ts)) (context which table w label es) 0 es ts
  parts-of w label es run ts entered counted =
      let M = marks which table (tree [] label es) (tree run label ts) in
      let parts : parts_of M ≡ all_marks which table es ts = parts-marks which table [] label es run label ts ∙ ap (λ k. if k then [] else all_marks which table es ts) entered in
      let start : (j : ℕ) → 0 + j ≡ j = λ j. (let same : 0 + j ≡ j = omega arith in same) in
      let form : (known_of M).form ≡ form_of label = ap (λ (k : Known). k.form) (known-marks which table [] label es run label ts) in
      record {
        part_at = λ j. ap₂ (λ ps n. slice_get ps n) parts (start j);
        wants = λ j s at. ap (λ k. wants_at which table w M k s) (start j) ∙ ap₂ (λ f n. wants_part which table f w n j s) form (ap length parts ∙ counted)
            ∙ wants-is which table w label es es ts (length (shapes table es)) j s entered refl at;
      }

  next-parts : (w : Bool) (mark : Mark) (contexts : ℕ → Bool) (i : ℕ) (e : Tree) (es : Trees) (t : Tree) (ts : Trees)
      → PartsFrom w mark contexts i (more e es) (more t ts) → PartsFrom w mark (λ j. contexts (suc j)) (suc i) es ts
  next-parts w mark contexts i e es t ts h =
      let shift : (j : ℕ) → suc i + j ≡ i + suc j = λ j. (let same : suc i + j ≡ i + suc j = omega arith in same) in
      record {
        part_at = λ j. ap (λ n. slice_get (parts_of mark) n) (shift j) ∙ h.part_at (suc j);
        wants = λ j s at. ap (λ n. wants_at which table w mark n s) (shift j) ∙ h.wants (suc j) s at;
      }

  first-part : (w : Bool) (mark : Mark) (contexts : ℕ → Bool) (i : ℕ) (e : Tree) (es : Trees) (t : Tree) (ts : Trees) → PartsFrom w mark contexts i (more e es) (more t ts)
      → returns_part which table w mark i t ≡ returns_of which table (contexts 0) (marks which table e t) t
  first-part w mark contexts i e es t ts h =
      let same : i ≡ i + 0 = omega arith in
      let M = marks which table e t in
      ap (λ o. option_map_or (λ part. returns_of which table (wants_at which table w mark i (known_of part).shape) part t) o true) (ap (λ n. slice_get (parts_of mark) n) same ∙ h.part_at 0)
      ∙ ap (λ b. returns_of which table b M t)
      (ap₂ (λ n s. wants_at which table w mark n s) same (shape-marks which table e t) ∙ h.wants 0 (shape table e) refl)

  -- ---- a node that import doesn't enter

  shut-tells : (w : Bool) (run : Run) (label : Label) (ts : Trees) → (is_bare run || is_put run label) ≡ true → is_closed label ≡ true
      → (returns_run (w && (import_rule which table).range_like label ts) run ≡ true) ↔ Back which table w (told false (tree [] label ts)) (told false (tree run label ts))
  shut-tells w run label ts gone shut =
      let rule = import_rule which table in
      let root = run_is (w && rule.range_like label ts) run label gone in
      let not_open : opens rule w (tree [] label (all_told false ts)) ≡ false = ap (λ k. not k && (true || (w && rule.range_like label (all_told false ts)))) shut in
      let is : import_of rule w (told false (tree [] label ts)) ≡ tree (if w && rule.range_like label ts then true ∷ [] else []) label (all_told false ts) =
      import_of-shut rule w [] label (all_told false ts) not_open ∙ ap (λ b. tree (if w && b then true ∷ [] else []) label (all_told false ts)) (set-like which table label ts) in (
        λ h. is ∙ ap (λ r. tree r label (all_told false ts)) (root.0 h),
        λ back. root.1 (ap run_of (sym is ∙ back)),
      )

module _ (which : ImportRule) (table : Table) (monotone : IsMonotone table) where
  -- ---- a node that import enters

  open-tells : (w : Bool) (run : Run) (label : Label) (es ts : Trees) (below : Bool) → (is_bare run || is_put run label) ≡ true → is_closed label ≡ false
      → ((below ≡ true) ↔ AllBack which table (context which table w label es) (all_told false es) (all_told false ts))
      → ((returns_run (w && (import_rule which table).range_like label ts) run && below) ≡ true) ↔ Back which table w (told false (tree [] label es)) (told false (tree run label ts))
  open-tells w run label es ts below gone entered each =
      let rule = import_rule which table in
      let root = run_is (w && rule.range_like label ts) run label gone in
      let xs = all_told false es in
      let us = all_told false ts in
      let contexts = set-context which table w label es in
      let same : AllBack which table (context which table w label xs) xs us → like table label us ≡ rule.range_like label ts =
      λ back. sym (like-back which table w label xs us back) ∙ like-kept which table monotone w label xs us (λ k. back) ∙ set-like which table label ts in (
        λ h. (let both = and_parts (returns_run (w && rule.range_like label ts) run) below h in
            let back : AllBack which table (context which table w label xs) xs us = subst (λ c. AllBack which table c xs us) (sym contexts) (each.0 both.1) in
            node-back which table w label xs (told_run false run) us entered back (ap (λ b. if w && b then true ∷ [] else []) (same back) ∙ root.0 both.0)),
        λ h. (let back = back-children which table w label xs (told_run false run) label us entered h in
            and_from _ below
            (root.1 (ap (λ b. if w && b then true ∷ [] else []) (sym (same back)) ∙ back-root which table w label xs (told_run false run) label us entered h))
            (each.1 (subst (λ c. AllBack which table c xs us) contexts back))),
      )

  -- ---- all of a formula

  abbrev Tells : Bool → Tree → Tree → Type 0
  Tells w e t = (returns_of which table w (marks which table e t) t ≡ true) ↔ Back which table w (told false e) (told false t)

  -- a bare node that has none, or one that import puts, in the imported formula
  gone-tells : (w : Bool) (run : Run) (label : Label) (ts : Trees) → (is_bare run || is_put run label) ≡ true
      → ((mark : Mark) (contexts : ℕ → Bool) → PartsFrom which table w mark contexts 0 (all_without_put ts) ts
      → (returns_from which table w mark 0 ts ≡ true) ↔ AllBack which table contexts (all_told false (all_without_put ts)) (all_told false ts))
      → Tells w (tree [] label (if is_closed label then ts else all_without_put ts)) (tree run label ts)
  gone-tells w run label ts gone each =
      let es = all_without_put ts in
      let here = returns_run (w && (import_rule which table).range_like label ts) run in
      let M = marks which table (tree [] label es) (tree run label ts) in
      elim (is_closed label) as (λ k. is_closed label ≡ k → Tells w (tree [] label (if k then ts else es)) (tree run label ts)) [
        | true ↦ λ shut. subst (λ (b : Bool). (b ≡ true) ↔ Back which table w (told false (tree [] label ts)) (told false (tree run label ts)))
            (sym (bare-tells which table w label ts run ts ∙ ap (λ k. here && (k || returns_from which table w (marks which table (tree [] label ts) (tree run label ts)) 0 ts)) shut ∙ and_true here)) (shut-tells which table w run label ts gone shut)
        | false ↦ λ entered. subst (λ (b : Bool). (b ≡ true) ↔ Back which table w (told false (tree [] label es)) (told false (tree run label ts)))
            (sym (bare-tells which table w label es run ts ∙ ap (λ k. here && (k || returns_from which table w M 0 ts)) entered))
            (open-tells w run label es ts _ gone entered
            (each M (context which table w label es) (parts-of which table w label es run ts entered (marks-count which table es ts (all_put-trimmed ts)))))
      ] refl

  kept-bare : (run : Run) (label : Label) → (is_bare run || is_put run label) ≡ false → is_bare run ≡ false
  kept-bare [] label h = cc
  kept-bare (flag ∷ run) label h = refl

  mutual
    pub tells : (w : Bool) (t : Tree) → Tells w (without_put t) t
    tells w (tree run label ts) =
        let t = tree run label ts in
        elim (is_bare run || is_put run label) as (λ b. (is_bare run || is_put run label) ≡ b → Tells w (if b then tree [] label (if is_closed label then ts else all_without_put ts) else t) t) [
          | true ↦ λ gone. gone-tells w run label ts gone (λ mark contexts h. tells_from w mark contexts 0 ts h)
          | false ↦ λ stays. subst (λ (b : Bool). (b ≡ true) ↔ Back which table w (told false t) (told false t))
              (sym (kept-tells which table w run label ts (kept-bare run label stays))) (settles_is which table w t)
        ] refl

    tells_from : (w : Bool) (mark : Mark) (contexts : ℕ → Bool) (i : ℕ) (ts : Trees) → PartsFrom which table w mark contexts i (all_without_put ts) ts
        → (returns_from which table w mark i ts ≡ true) ↔ AllBack which table contexts (all_told false (all_without_put ts)) (all_told false ts)
    tells_from w mark contexts i none h = (λ e. refl, λ e. refl)
    tells_from w mark contexts i (more t ts) h =
        let es = all_without_put ts in
        let same = first-part which table w mark contexts i (without_put t) es t ts h in
        let first = tells (contexts 0) t in
        let others = tells_from w mark (λ j. contexts (suc j)) (suc i) ts (next-parts which table w mark contexts i (without_put t) es t ts h) in (
          λ e. (let both = and_parts (returns_part which table w mark i t) _ e in ap₂ more (first.0 (sym same ∙ both.0)) (others.0 both.1)),
          λ e. and_from _ _ (same ∙ first.1 (ap (λ us. head_of us (told false t)) e)) (others.1 (ap rest_of e)),
        )

  pub returns-tells : (w : Bool) (t : Tree) (mark : Mark) (result : Bool) → mark ≡ marks which table (without_put t) t → result ≡ returns_of which table w mark t
      → (result ≡ true) ↔ ComesBack which table w t (without_put t)
  returns-tells w t mark result is found =
      let same : result ≡ returns_of which table w (marks which table (without_put t) t) t = found ∙ ap (λ m. returns_of which table w m t) is in
      let both = tells w t in
      let flags = comes_back which table w t (without_put t) in (
        λ h. flags.1 (both.0 (sym same ∙ h)),
        λ back. same ∙ both.1 (flags.0 back),
      )
