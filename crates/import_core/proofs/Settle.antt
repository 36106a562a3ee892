-- Importing an imported formula changes nothing.
--   after-shape   the shape of an imported formula is the one after import
--   after-most    it is at most the given one
--   again         so an import of an imported formula, in a context that is no wider, is that formula
use Rattle.std.proofs.Common.{◌≡◌, ℕ, zero, suc, List, [], ◌∷◌, length, slice_get, Bool, true, false, not, ◌&&◌, ◌||◌, if◌then◌else◌, refl, sym, ap, ap₂, ◌∙◌, subst}
use Rattle.std.proofs.lemmas.Bool.{and_parts, and_from, false≢true}
use Rattle.std.proofs.lemmas.List.Elements.{length_all_zip}
use Rattle.std.specs.List.{AllZip}
use Rattle.std.specs.Option.{option_map_or}
use Rattle.call_core.specs.declared.function.Function.{Function}
use Rattle.call_core.specs.declared.function.Function.TheVariants.{Other}
use Rattle.kind_table.specs.declared.shown.Shown.{Shown}
use Rattle.kind_table.specs.declared.static_result.StaticResult.{StaticResult}
use Rattle.kind_table.specs.declared.static_result.StaticResult.TheVariants.{Scalar, Array, Range, Unknown}
use Rattle.kind_table.specs.Shape.{IsAtMost}
use Rattle.kind_table.specs.ShapeLaws.{IsAtMost-refl, combined_monotone}
use Rattle.kind_table.proofs.OwnRows.{own_rows_never_rise}
use Rattle.kind_table.specs.Table.{Table}
use Rattle.tree_core.specs.Label.{Label, leaf, passing, spill, closed, call}
use Rattle.tree_core.specs.Flags.{Alike}
use Rattle.tree_core.specs.Place.{run_at}
use Rattle.tree_core.specs.Tree.{Run, Tree, tree, Trees, none, more, skeleton}
use Rattle.shape_core.specs.Shape.{call_shape, node_shape, passed, shape, shapes, shown_all}
use Rattle.import_core.specs.declared.rule.ImportRule.{ImportRule}
use Rattle.import_core.specs.After.{after, after_all, binds, context, is_large, is_scalar, is_wanted_of, signature_of, takes_every, wants_one}
use Rattle.import_core.specs.Imported.{merged_run}
use Rattle.import_core.specs.ImportOf.{is_bare, opens, import_of}
use Rattle.import_core.specs.ImportRule.{import_rule}
use Rattle.import_core.proofs.Below.{import_all, root_run, import_of-open, import_of-shut}
use Rattle.import_core.proofs.Shows.{merged-bare, rows-kept}

-- ---- the shape of an imported formula

under_run : (table : Table) (run : Run) (label : Label) (ts : Trees) → is_bare run ≡ false → shape table (tree run label ts) ≡ Scalar
under_run table [] label ts h = cc
under_run table (flag ∷ run) label ts h = refl

run_or : (b flag : Bool) (run : Run) → is_bare (if b then true ∷ [] else merged_run (flag ∷ run)) ≡ false
run_or true flag run = refl
run_or false flag run = merged-bare flag run

one_or : (table : Table) (b : Bool) (label : Label) (ts : Trees) → shape table (tree (if b then true ∷ [] else []) label ts) ≡ (if b then Scalar else node_shape table label (shown_all ts) (shapes table ts))
one_or table true label ts = refl
one_or table false label ts = refl

module _ (which : ImportRule) (table : Table) where
  mutual
    pub after-shape : (add : Bool) (t : Tree) → shape table (import_of (import_rule which table) add t) ≡ after which table add t
    after-shape add (tree (flag ∷ run) label ts) = under_run table _ label _ (run_or (add && (import_rule which table).range_like label ts) flag run)
    after-shape add (tree [] (leaf l) ts) = one_or table (add && (import_rule which table).range_like (leaf l) ts) (leaf l) _
    after-shape add (tree [] (passing p) ts) =
        ap (shape table) (import_of-open (import_rule which table) add [] (passing p) ts refl)
        ∙ one_or table (add && false) (passing p) _
        ∙ ap (λ s. if add && false then Scalar else s) (ap passed (afters-shapes (λ i. add) ts))
    after-shape add (tree [] spill ts) = ap (shape table) (import_of-open (import_rule which table) add [] spill ts refl) ∙ one_or table (add && false) spill _
    after-shape add (tree [] (closed c) ts) = one_or table (add && (import_rule which table).range_like (closed c) ts) (closed c) _
    after-shape add (tree [] (call kind) ts) =
        let contexts = wants_one which table kind (shapes table ts) in
        let like = not (binds kind) && is_large (call_shape table kind (shown_all ts) (after_all which table contexts ts)) in
        ap (shape table) (import_of-open (import_rule which table) add [] (call kind) ts refl)
        ∙ one_or table (add && like) (call kind) _
        ∙ ap (λ s. if add && like then Scalar else s)
        (ap (call_shape table kind (shown_all (import_all (import_rule which table) contexts ts))) (afters-shapes contexts ts)
        ∙ rows-kept which table (shapes table ts) (after_all which table contexts ts) ts kind)

    pub afters-shapes : (contexts : ℕ → Bool) (ts : Trees) → shapes table (import_all (import_rule which table) contexts ts) ≡ after_all which table contexts ts
    afters-shapes contexts none = refl
    afters-shapes contexts (more t ts) = ap₂ (λ s ss. s ∷ ss) (after-shape (contexts 0) t) (afters-shapes (λ i. contexts (suc i)) ts)

-- ---- contexts fall

pub large_above : (lower upper : StaticResult) → IsAtMost lower upper → is_large lower ≡ true → is_large upper ≡ true
large_above Scalar upper h large = cc
large_above (Array a b) upper h large = cc
large_above (Range a b) Scalar h large = absurd h
large_above (Range a b) (Array c d) h large = absurd h
large_above (Range a b) (Range c d) h large = refl
large_above (Range a b) Unknown h large = refl
large_above Unknown Scalar h large = absurd h
large_above Unknown (Array c d) h large = absurd h
large_above Unknown (Range c d) h large = absurd h
large_above Unknown Unknown h large = refl

pub wanted_above : (which : ImportRule) (kind : Function) (lower upper : StaticResult) → IsAtMost lower upper → is_wanted_of which kind lower ≡ true → is_wanted_of which kind upper ≡ true
wanted_above which kind lower upper h wanted = every_or (takes_every which kind) (is_large lower) (is_large upper) (large_above lower upper h) wanted
  where
    every_or : (every low high : Bool) → (low ≡ true → high ≡ true) → (every || low) ≡ true → (every || high) ≡ true
    every_or true low high rises e = refl
    every_or false low high rises e = rises e

pub wanted_at : (which : ImportRule) (kind : Function) (lower upper : List StaticResult) (i : ℕ) → AllZip IsAtMost lower upper
    → option_map_or (is_wanted_of which kind) (slice_get lower i) false ≡ true → option_map_or (is_wanted_of which kind) (slice_get upper i) false ≡ true
wanted_at which kind [] upper i each wanted = cc
wanted_at which kind (s ∷ ss) [] i each wanted = absurd each
wanted_at which kind (s ∷ ss) (t ∷ ts) zero each wanted = wanted_above which kind s t each.0 wanted
wanted_at which kind (s ∷ ss) (t ∷ ts) (suc i) each wanted = wanted_at which kind ss ts i each.1 wanted

pub wants_fall : (which : ImportRule) (table : Table) (kind : Function) (lower upper : List StaticResult) (i : ℕ) → AllZip IsAtMost lower upper → wants_one which table kind lower i ≡ true → wants_one which table kind upper i ≡ true
wants_fall which table kind lower upper i each h =
    let parts = and_parts (is_scalar (signature_of table kind (length lower) i)) _ h in
    and_from _ _ (subst (λ n. is_scalar (signature_of table kind n i) ≡ true) (length_all_zip IsAtMost lower upper each) parts.0) (wanted_at which kind lower upper i each parts.1)

-- ---- and shapes

pub passed_monotone : (lower upper : List StaticResult) → AllZip IsAtMost lower upper → IsAtMost (passed lower) (passed upper)
passed_monotone [] upper each = tt
passed_monotone (s ∷ ss) [] each = absurd each
passed_monotone (s ∷ []) (t ∷ []) each = each.0
passed_monotone (s ∷ []) (t ∷ t' ∷ ts) each = absurd each.1
passed_monotone (s ∷ s' ∷ ss) (t ∷ []) each = absurd each.1
passed_monotone (s ∷ s' ∷ ss) (t ∷ t' ∷ ts) each = combined_monotone s t s' t' each.0 each.1.0

-- what keeps the order of shapes
abbrev pub IsMonotone : Table → Type 0
IsMonotone table = (id : ℕ) (lower upper : List StaticResult) → AllZip IsAtMost lower upper → IsAtMost (table.shape id lower) (table.shape id upper)

module _ (which : ImportRule) (table : Table) (monotone : IsMonotone table) where
  call_monotone : (kind : Function) (shows : List Shown) (lower upper : List StaticResult) → AllZip IsAtMost lower upper → IsAtMost (call_shape table kind shows lower) (call_shape table kind shows upper)
  call_monotone (Other id) shows lower upper each = monotone id lower upper each
  call_monotone kind shows lower upper each = own_rows_never_rise kind shows lower upper each

  pub node_monotone : (label : Label) (shows : List Shown) (lower upper : List StaticResult) → AllZip IsAtMost lower upper → IsAtMost (node_shape table label shows lower) (node_shape table label shows upper)
  node_monotone (leaf l) shows lower upper each = IsAtMost-refl (node_shape table (leaf l) shows lower)
  node_monotone (passing p) shows lower upper each = passed_monotone lower upper each
  node_monotone spill shows lower upper each = tt
  node_monotone (closed c) shows lower upper each = tt
  node_monotone (call kind) shows lower upper each = call_monotone kind shows lower upper each

  scalar_or : (b : Bool) (lower upper : StaticResult) → IsAtMost lower upper → IsAtMost (if b then Scalar else lower) upper
  scalar_or true lower upper h = tt
  scalar_or false lower upper h = h

  mutual
    pub after-most : (add : Bool) (t : Tree) → IsAtMost (after which table add t) (shape table t)
    after-most add (tree (flag ∷ run) label ts) = tt
    after-most add (tree [] label ts) = scalar_or _ _ _ (node_monotone label (shown_all ts) _ _ (afters-most (context which table add label ts) ts))

    pub afters-most : (contexts : ℕ → Bool) (ts : Trees) → AllZip IsAtMost (after_all which table contexts ts) (shapes table ts)
    afters-most contexts none = tt
    afters-most contexts (more t ts) = (after-most (contexts 0) t, afters-most (λ i. contexts (suc i)) ts)

  pub context_fall : (add later : Bool) → (later ≡ true → add ≡ true) → (label : Label) (ts : Trees) (i : ℕ)
      → context which table later label (import_all (import_rule which table) (context which table add label ts) ts) i ≡ true → context which table add label ts i ≡ true
  context_fall add later h (leaf l) ts i e = e
  context_fall add later h (passing p) ts i e = h e
  context_fall add later h spill ts i e = h e
  context_fall add later h (closed c) ts i e = e
  context_fall add later h (call kind) ts i e =
      let contexts = wants_one which table kind (shapes table ts) in
      wants_fall which table kind (after_all which table contexts ts) (shapes table ts) i (afters-most contexts ts)
      (subst (λ ss. wants_one which table kind ss i ≡ true) (afters-shapes which table contexts ts) e)

  -- ---- import again

  merged_again : (run : Run) → merged_run (merged_run run) ≡ merged_run run
  merged_again [] = refl
  merged_again (flag ∷ []) = refl
  merged_again (outer ∷ flag ∷ run) = merged_again (flag ∷ run)

  root_again : (add later : Bool) → (later ≡ true → add ≡ true) → (b : Bool) (run : Run)
      → (if later && b then true ∷ [] else merged_run (if add && b then true ∷ [] else merged_run run)) ≡ (if add && b then true ∷ [] else merged_run run)
  root_again true true h true run = refl
  root_again true true h false run = merged_again run
  root_again true false h true run = refl
  root_again true false h false run = merged_again run
  root_again false true h b run = absurd (false≢true (h refl))
  root_again false false h b run = merged_again run

  bare_or : (b : Bool) (run : Run) → is_bare run ≡ false → is_bare (if b then true ∷ [] else merged_run run) ≡ false
  bare_or b [] h = cc
  bare_or b (flag ∷ run) h = run_or b flag run

  shut_again : (add later : Bool) → (later ≡ true → add ≡ true) → (k b : Bool) (run : Run) → (not k && (is_bare run || (add && b))) ≡ false
      → (not k && (is_bare (if add && b then true ∷ [] else merged_run run) || (later && b))) ≡ false
  shut_again add later h true b run e = refl
  shut_again add later h false b [] e = cc
  shut_again true later h false true (flag ∷ run) e = cc
  shut_again true true h false false (flag ∷ run) e = rw (merged-bare flag run) refl
  shut_again true false h false false (flag ∷ run) e = rw (merged-bare flag run) refl
  shut_again false true h false b (flag ∷ run) e = absurd (false≢true (h refl))
  shut_again false false h false b (flag ∷ run) e = rw (merged-bare flag run) refl

  -- a node's imported children keep it range-like, where importing them again changes nothing
  like_again : (add : Bool) (label : Label) (ts : Trees)
      → ((later : ℕ → Bool) → ((i : ℕ) → later i ≡ true → context which table add label ts i ≡ true)
      → import_all (import_rule which table) later (import_all (import_rule which table) (context which table add label ts) ts) ≡ import_all (import_rule which table) (context which table add label ts) ts)
      → (import_rule which table).range_like label (import_all (import_rule which table) (context which table add label ts) ts) ≡ (import_rule which table).range_like label ts
  like_again add (leaf l) ts settled = refl
  like_again add (passing p) ts settled = refl
  like_again add spill ts settled = refl
  like_again add (closed c) ts settled = refl
  like_again add (call kind) ts settled =
      let contexts = wants_one which table kind (shapes table ts) in
      let us = import_all (import_rule which table) contexts ts in
      let later = wants_one which table kind (shapes table us) in
      let fall : (i : ℕ) → later i ≡ true → contexts i ≡ true = context_fall add add (λ e. e) (call kind) ts in
      ap (λ s. not (binds kind) && is_large s)
      (rows-kept which table (shapes table ts) (after_all which table later us) ts kind
      ∙ ap (call_shape table kind (shown_all ts)) (sym (afters-shapes which table later us) ∙ ap (shapes table) (settled later fall) ∙ afters-shapes which table contexts ts))

  again_open : (add later : Bool) → (later ≡ true → add ≡ true) → (run : Run) (label : Label) (ts : Trees)
      → import_all (import_rule which table) (context which table later label (import_all (import_rule which table) (context which table add label ts) ts)) (import_all (import_rule which table) (context which table add label ts) ts)
      ≡ import_all (import_rule which table) (context which table add label ts) ts
      → (import_rule which table).range_like label (import_all (import_rule which table) (context which table add label ts) ts) ≡ (import_rule which table).range_like label ts
      → import_of (import_rule which table) later (tree (root_run (import_rule which table) add run label ts) label (import_all (import_rule which table) (context which table add label ts) ts))
      ≡ tree (root_run (import_rule which table) add run label ts) label (import_all (import_rule which table) (context which table add label ts) ts)
  again_open add later h run label ts same like =
      let rule = import_rule which table in
      let us = import_all rule (context which table add label ts) ts in
      let r = root_run rule add run label ts in
      let root : root_run rule later r label us ≡ r = ap (λ b. if later && b then true ∷ [] else merged_run r) like ∙ root_again add later h (rule.range_like label ts) run in
      elim (opens rule later (tree r label us)) as (λ b. opens rule later (tree r label us) ≡ b → import_of rule later (tree r label us) ≡ tree r label us) [
        | true ↦ λ e. import_of-open rule later r label us e ∙ ap₂ (λ s vs. tree s label vs) root same
        | false ↦ λ e. import_of-shut rule later r label us e ∙ ap (λ s. tree s label us) root
      ] refl

  mutual
    pub again : (add later : Bool) → (later ≡ true → add ≡ true) → (t : Tree)
        → import_of (import_rule which table) later (import_of (import_rule which table) add t) ≡ import_of (import_rule which table) add t
    again add later h (tree run label ts) =
        let rule = import_rule which table in
        let contexts = context which table add label ts in
        let us = import_all rule contexts ts in
        let settled = λ (next : ℕ → Bool) (fall : (i : ℕ) → next i ≡ true → contexts i ≡ true). agains contexts next fall ts in
        elim (opens rule add (tree run label ts)) as (λ b. opens rule add (tree run label ts) ≡ b
        → import_of rule later (import_of rule add (tree run label ts)) ≡ import_of rule add (tree run label ts)) [
          | true ↦ λ e. ap (import_of rule later) (import_of-open rule add run label ts e)
              ∙ again_open add later h run label ts (settled (context which table later label us) (context_fall add later h label ts)) (like_again add label ts settled)
              ∙ sym (import_of-open rule add run label ts e)
          | false ↦ λ e. ap (import_of rule later) (import_of-shut rule add run label ts e)
              ∙ import_of-shut rule later (root_run rule add run label ts) label ts (shut_again add later h (rule.closed label) (rule.range_like label ts) run e)
              ∙ ap (λ r. tree r label ts) (root_again add later h (rule.range_like label ts) run)
              ∙ sym (import_of-shut rule add run label ts e)
        ] refl

    pub agains : (contexts later : ℕ → Bool) → ((i : ℕ) → later i ≡ true → contexts i ≡ true) → (ts : Trees)
        → import_all (import_rule which table) later (import_all (import_rule which table) contexts ts) ≡ import_all (import_rule which table) contexts ts
    agains contexts later fall none = refl
    agains contexts later fall (more t ts) = ap₂ more (again (contexts 0) (later 0) (fall 0) t) (agains (λ i. contexts (suc i)) (λ i. later (suc i)) (λ i. fall (suc i)) ts)

  -- so an imported formula is its own import
  pub settled : (add : Bool) (given imported : Tree) → imported ≡ import_of (import_rule which table) add given → Alike (import_of (import_rule which table) add imported) imported
  settled add given imported e =
      let same : import_of (import_rule which table) add imported ≡ imported = ap (import_of (import_rule which table) add) e ∙ again add add (λ h. h) given ∙ sym e in
      (ap skeleton same, λ place. ap (λ t. length (run_at t place)) same)
