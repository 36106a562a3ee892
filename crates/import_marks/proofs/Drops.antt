-- What marks say of the formula that they are of.
--   commit-is   the marks after a drop are those of the formula without the `@`s over the place
--   way-told    import reaches a place over which an `@` stands
--   fits-told   and these can go
use Rattle.std.proofs.Common.{◌≡◌, ◌↔◌, ℕ, zero, suc, Bool, true, false, not, ◌&&◌, ◌||◌, if◌then◌else◌, List, [], ◌∷◌, length, slice_get, Some, None, inl, inr, refl, sym, ap, ap₂, ◌∙◌}
use Rattle.std.proofs.lemmas.Bool.{and_parts, and_from, false≢true}
use Rattle.std.specs.List.{slice_set}
use Rattle.std.specs.Option.{option_map_or}
use Rattle.kind_table.specs.declared.shown.Shown.{Shown}
use Rattle.kind_table.specs.declared.shown.Shown.TheVariants.{Nothing}
use Rattle.kind_table.specs.declared.static_result.StaticResult.{StaticResult}
use Rattle.kind_table.specs.Table.{Table}
use Rattle.tree_core.specs.Label.{Label, leaf, passing, spill, closed, call}
use Rattle.tree_core.specs.Tree.{Run, Tree, tree, Trees}
use Rattle.tree_core.specs.Place.{Place}
use Rattle.shape_core.specs.Shape.{node_shape, shape, shapes, shown, shown_all}
use Rattle.import_core.specs.declared.rule.ImportRule.{ImportRule}
use Rattle.import_core.specs.After.{context, is_scalar, is_wanted_of, signature_of}
use Rattle.import_core.specs.ImportOf.{is_bare}
use Rattle.import_core.specs.ImportRule.{import_rule, is_closed}
use Rattle.import_core.proofs.Shows.{any_children}
use Rattle.import_core.proofs.Trimmed.{Trimmed, AllTrimmed}
use Rattle.export_marks.specs.Bared.{bared, bared_in}
use Rattle.export_marks.specs.Trial.{IsWay, allows, settles, fits}
use Rattle.mark_core.specs.declared.mark.Known.{Known}
use Rattle.mark_core.specs.declared.mark.Mark.{Mark, out-roll-Mark}
use Rattle.mark_core.specs.declared.mark.Form.TheVariants as form
use Rattle.mark_core.specs.Mark.{known_of, parts_of, mark_of, seen, bare_shape, same_shape, same_shown}
use Rattle.mark_core.specs.Drop.{wants_part, wants_at, way_of, shape_with, with_part, over, commit_of, fits_of}
use Rattle.mark_core.specs.Drop as drop
use Rattle.import_marks.specs.Marks.{marks, all_marks, form_of}
use Rattle.import_marks.proofs.Parts.{PartAt, part-at, marks-count}
use Rattle.import_marks.proofs.Seen.{same_shape-is, same_shown-is, set-same}

abbrev lists_of : {A : Type 0} → Label → List A → List A
lists_of label xs = if is_closed label then [] else xs

-- what is known of a node, from the lists of what is known of its parts
abbrev known_from : ImportRule → Table → (r : Run) (l : Label) (es : Trees) (s : Run) (m : Label) (ts : Trees) → StaticResult → List StaticResult → List Shown → Known
known_from which table r l es s m ts whole ss hs = record {
  form = form_of l;
  bare = is_bare r;
  range_like = (import_rule which table).range_like m ts;
  settles = settles which table true (tree s m ts);
  alone = shown (tree [] l es);
  shape = whole;
  shapes = ss;
  shows = hs;
}

-- what is known of a bare node that has this shape and shows this
abbrev shown_known : StaticResult → Shown → Known
shown_known s h = record { form = form.Spill; bare = true; range_like = false; settles = true; alone = h; shape = s; shapes = []; shows = [] }

abbrev known_alone : ImportRule → Table → Run → Label → Run → Label → Trees → Shown → StaticResult → List StaticResult → List Shown → Known
known_alone which table r l s m ts alone whole ss hs = record {
  form = form_of l;
  bare = is_bare r;
  range_like = (import_rule which table).range_like m ts;
  settles = settles which table true (tree s m ts);
  alone = alone;
  shape = whole;
  shapes = ss;
  shows = hs;
}

module _ (which : ImportRule) (table : Table) where
  abbrev known_at : (r : Run) (l : Label) (es : Trees) (s : Run) (m : Label) (ts : Trees) → Known
  known_at r l es s m ts = known_from which table r l es s m ts (shape table (tree r l es)) (lists_of l (shapes table es)) (lists_of l (shown_all es))

  pub known-marks : (r : Run) (l : Label) (es : Trees) (s : Run) (m : Label) (ts : Trees) → known_of (marks which table (tree r l es) (tree s m ts)) ≡ known_at r l es s m ts
  known-marks r l es s m ts = ap (λ x. x.known) (out-roll-Mark _)

  pub parts-marks : (r : Run) (l : Label) (es : Trees) (s : Run) (m : Label) (ts : Trees) → parts_of (marks which table (tree r l es) (tree s m ts)) ≡ lists_of l (all_marks which table es ts)
  parts-marks r l es s m ts = ap (λ x. x.parts) (out-roll-Mark _)

  pub shape-marks : (e t : Tree) → (known_of (marks which table e t)).shape ≡ shape table e
  shape-marks (tree r l es) (tree s m ts) = ap (λ k. k.shape) (known-marks r l es s m ts)

  pub settles-marks : (e t : Tree) → (known_of (marks which table e t)).settles ≡ settles which table true t
  settles-marks (tree r l es) (tree s m ts) = ap (λ k. k.settles) (known-marks r l es s m ts)

  face-at : (r : Run) (l : Label) (es : Trees) → (if is_bare r then shown (tree [] l es) else Nothing) ≡ shown (tree r l es)
  face-at [] l es = refl
  face-at (flag ∷ r) l es = refl

  pub seen-marks : (e t : Tree) → seen (known_of (marks which table e t)) ≡ seen (shown_known (shape table e) (shown e))
  seen-marks (tree r l es) (tree s m ts) =
      ap seen (known-marks r l es s m ts) ∙ ap (λ h. seen (shown_known (shape table (tree r l es)) h)) (face-at r l es)

  -- ---- the shape of a bare node

  pub bare-is : (l : Label) (es : Trees) → bare_shape table (form_of l) (lists_of l (shown_all es)) (lists_of l (shapes table es)) ≡ node_shape table l (shown_all es) (shapes table es)
  bare-is (leaf l) es = refl
  bare-is (passing p) es = refl
  bare-is spill es = refl
  bare-is (closed c) es = refl
  bare-is (call kind) es = refl

  -- ---- a drop

  commit-here : (r : Run) (l : Label) (es : Trees) (s : Run) (m : Label) (ts : Trees) → commit_of table (marks which table (tree r l es) (tree s m ts)) [] ≡ marks which table (tree [] l es) (tree s m ts)
  commit-here r l es s m ts =
      ap₂ (λ k ps. mark_of (drop.bared table k) ps) (known-marks r l es s m ts) (parts-marks r l es s m ts)
      ∙ ap (λ whole. mark_of (known_from which table [] l es s m ts whole (lists_of l (shapes table es)) (lists_of l (shown_all es))) (lists_of l (all_marks which table es ts))) (bare-is l es)

  -- the shape of a node once another thing is seen of a part
  shape-after : (r : Run) (l : Label) (es xs : Trees) (i : ℕ) (was now : StaticResult) (was_shown now_shown : Shown) → is_closed l ≡ false
      → slice_get (shapes table es) i ≡ Some was → slice_get (shown_all es) i ≡ Some was_shown → slice_set (shapes table es) i now ≡ shapes table xs → slice_set (shown_all es) i now_shown ≡ shown_all xs
      → (b : Bool) → (same_shape was now && same_shown was_shown now_shown) ≡ b
      → (if is_bare r && not b then bare_shape table (form_of l) (shown_all xs) (shapes table xs) else shape table (tree r l es)) ≡ shape table (tree r l xs)
  shape-after (flag ∷ r) l es xs i was now was_shown now_shown entered a b c d same e = refl
  shape-after [] l es xs i was now was_shown now_shown entered a b c d false e =
      sym (ap (λ k. bare_shape table (form_of l) (if k then [] else shown_all xs) (if k then [] else shapes table xs)) entered) ∙ bare-is l xs
  shape-after [] l es xs i was now was_shown now_shown entered a b c d true e =
      let both = and_parts (same_shape was now) _ e in
      let shapes_same : shapes table es ≡ shapes table xs = sym (ap (λ s. slice_set (shapes table es) i s) (sym (same_shape-is was now both.0)) ∙ set-same (shapes table es) i was a) ∙ c in
      let shows_same : shown_all es ≡ shown_all xs = sym (ap (λ h. slice_set (shown_all es) i h) (sym (same_shown-is was_shown now_shown both.1)) ∙ set-same (shown_all es) i was_shown b) ∙ d in
      ap₂ (λ hs ss. node_shape table l hs ss) shows_same shapes_same

  -- above a part whose marks after the drop are known
  commit-above : (r : Run) (l : Label) (es : Trees) (s : Run) (m : Label) (ts : Trees) (i : ℕ) (place : Place) → is_closed l ≡ false → (p : PartAt which table es ts i place)
      → commit_of table (marks which table p.part p.import) place ≡ marks which table (bared p.part place) p.import
      → commit_of table (marks which table (tree r l es) (tree s m ts)) (i ∷ place) ≡ marks which table (tree r l (bared_in es i place)) (tree s m ts)
  commit-above r l es s m ts i place entered p below =
      let xs = bared_in es i place in
      let M = marks which table (tree r l es) (tree s m ts) in
      let P = marks which table p.part p.import in
      let N = marks which table (bared p.part place) p.import in
      let parts : parts_of M ≡ all_marks which table es ts = parts-marks r l es s m ts ∙ ap (λ k. if k then [] else all_marks which table es ts) entered in
      let known : known_of M ≡ known_from which table r l es s m ts (shape table (tree r l es)) (shapes table es) (shown_all es) =
      known-marks r l es s m ts
      ∙ ap (λ k. known_from which table r l es s m ts (shape table (tree r l es)) (if k then [] else shapes table es) (if k then [] else shown_all es)) entered in
      let K = known_from which table r l es s m ts (shape table (tree r l es)) (shapes table es) (shown_all es) in
      let was = shape table p.part in
      let now = shape table (bared p.part place) in
      let same = same_shape was now && same_shown (shown p.part) (shown (bared p.part place)) in
      ap (λ o. option_map_or (λ part. over table M i part (commit_of table part place)) o M) (ap (λ ps. slice_get ps i) parts ∙ p.mark_at)
      ∙ ap (λ n. over table M i P n) below
      ∙ ap₂ (λ k ps. mark_of (with_part table k i (seen (known_of P)) (seen (known_of N))) (slice_set ps i N)) known parts
      ∙ ap₂ (λ a b. mark_of (with_part table K i a b) (slice_set (all_marks which table es ts) i N)) (seen-marks p.part p.import) (seen-marks (bared p.part place) p.import)
      ∙ ap₂ (λ ss hs. mark_of (known_from which table r l es s m ts (if is_bare r && not same then bare_shape table (form_of l) hs ss else shape table (tree r l es)) ss hs) (slice_set (all_marks which table es ts) i N)) p.shapes_after p.shows_after
      ∙ ap₂ (λ whole ps. mark_of (known_from which table r l es s m ts whole (shapes table xs) (shown_all xs)) ps)
      (shape-after r l es xs i was now (shown p.part) (shown (bared p.part place)) entered p.shape_at p.shown_at p.shapes_after p.shows_after same refl) p.marks_after
      ∙ ap (λ alone. mark_of (known_alone which table r l s m ts alone (shape table (tree r l xs)) (shapes table xs) (shown_all xs)) (all_marks which table xs ts)) (any_children l es xs)
      ∙ sym (ap (λ k. mark_of (known_from which table r l xs s m ts (shape table (tree r l xs)) (if k then [] else shapes table xs) (if k then [] else shown_all xs)) (if k then [] else all_marks which table xs ts)) entered)

  pub commit-is : (place : Place) (v : Bool) (e t : Tree) → Trimmed e t → IsWay which table v e t place → commit_of table (marks which table e t) place ≡ marks which table (bared e place) t
  commit-is [] v (tree r l es) (tree s m ts) part way = commit-here r l es s m ts
  commit-is (i ∷ place) v (tree r l es) (tree s m ts) part way = elim (part-at which table es ts i place part.1.1) [
    | inl p ↦ commit-above r l es s m ts i place way.1.0 p
        (commit-is place (context which table v l es i) p.part p.import p.trimmed ((p.way_at (context which table v l es)).0 way.1.1))
    | inr n ↦ absurd (n.no_way (context which table v l es) way.1.1)
  ]

  -- ---- contexts

  pub wants-is : (w : Bool) (l : Label) (es xs ts : Trees) (count i : ℕ) (s : StaticResult) → is_closed l ≡ false → count ≡ length (shapes table xs) → slice_get (shapes table xs) i ≡ Some s
      → wants_part which table (form_of l) w count i s ≡ context which table w l xs i
  wants-is w (leaf k) es xs ts count i s entered n h = refl
  wants-is w (passing p) es xs ts count i s entered n h = refl
  wants-is w spill es xs ts count i s entered n h = refl
  wants-is w (closed c) es xs ts count i s entered n h = cc
  wants-is w (call kind) es xs ts count i s entered n h =
      ap₂ (λ k o. is_scalar (signature_of table kind k i) && option_map_or (is_wanted_of which kind) o false) n (sym h)

  get-set : {A : Type 0} (xs : List A) (i : ℕ) (x y : A) → slice_get xs i ≡ Some x → slice_get (slice_set xs i y) i ≡ Some y
  get-set [] i x y h = cc
  get-set (z ∷ xs) zero x y h = refl
  get-set (z ∷ xs) (suc i) x y h = get-set xs i x y h

  set-length : {A : Type 0} (xs : List A) (i : ℕ) (y : A) → length (slice_set xs i y) ≡ length xs
  set-length [] i y = refl
  set-length (z ∷ xs) zero y = refl
  set-length (z ∷ xs) (suc i) y = ap suc (set-length xs i y)

  -- the context of a part, before and after the drop
  wants-now : (w : Bool) (r : Run) (l : Label) (es : Trees) (s : Run) (m : Label) (ts : Trees) (i : ℕ) (place : Place) → AllTrimmed es ts → is_closed l ≡ false → (p : PartAt which table es ts i place)
      → wants_at which table w (marks which table (tree r l es) (tree s m ts)) i (known_of (marks which table p.part p.import)).shape ≡ context which table w l es i
  wants-now w r l es s m ts i place h entered p =
      ap₂ (λ k ps. wants_part which table k.form w (length ps) i (known_of (marks which table p.part p.import)).shape) (known-marks r l es s m ts)
      (parts-marks r l es s m ts ∙ ap (λ k. if k then [] else all_marks which table es ts) entered)
      ∙ ap₂ (λ n sh. wants_part which table (form_of l) w n i sh) (marks-count which table es ts h) (shape-marks p.part p.import)
      ∙ wants-is w l es es ts (length (shapes table es)) i (shape table p.part) entered refl p.shape_at

  wants-next : (w : Bool) (r : Run) (l : Label) (es : Trees) (s : Run) (m : Label) (ts : Trees) (i : ℕ) (place : Place) → AllTrimmed es ts → is_closed l ≡ false → (p : PartAt which table es ts i place)
      → commit_of table (marks which table p.part p.import) place ≡ marks which table (bared p.part place) p.import
      → wants_at which table w (marks which table (tree r l es) (tree s m ts)) i (known_of (commit_of table (marks which table p.part p.import) place)).shape ≡ context which table w l (bared_in es i place) i
  wants-next w r l es s m ts i place h entered p e =
      let xs = bared_in es i place in
      let now = shape table (bared p.part place) in
      let at_xs : slice_get (shapes table xs) i ≡ Some now = ap (λ ss. slice_get ss i) (sym p.shapes_after) ∙ get-set (shapes table es) i (shape table p.part) now p.shape_at in
      let count : length (all_marks which table es ts) ≡ length (shapes table xs) =
      marks-count which table es ts h ∙ sym (set-length (shapes table es) i now) ∙ ap length p.shapes_after in
      ap₂ (λ k ps. wants_part which table k.form w (length ps) i (known_of (commit_of table (marks which table p.part p.import) place)).shape) (known-marks r l es s m ts)
      (parts-marks r l es s m ts ∙ ap (λ k. if k then [] else all_marks which table es ts) entered)
      ∙ ap₂ (λ n sh. wants_part which table (form_of l) w n i sh) count (ap (λ n. (known_of n).shape) e ∙ shape-marks (bared p.part place) p.import)
      ∙ wants-is w l es xs ts (length (shapes table xs)) i now entered refl at_xs

  -- ---- the way to a place

  from_not : (b : Bool) → (not b ≡ true) ↔ (b ≡ false)
  from_not true = (λ h. cc, λ h. cc)
  from_not false = (λ h. refl, λ h. refl)

  abbrev way_part : Bool → Mark → Place → ℕ → List Mark → Bool
  way_part w mark place i ps = option_map_or (λ part. way_of which table (wants_at which table w mark i (known_of part).shape) part place) (slice_get ps i) false

  abbrev is_open : Bool → Known → Bool
  is_open w known = known.bare || (w && known.range_like)

  -- above a part
  way-above : (w : Bool) (r : Run) (l : Label) (es : Trees) (s : Run) (m : Label) (ts : Trees) (i : ℕ) (place : Place) → AllTrimmed es ts → is_closed l ≡ false → (p : PartAt which table es ts i place)
      → way_of which table w (marks which table (tree r l es) (tree s m ts)) (i ∷ place)
      ≡ ((is_bare r || (w && (import_rule which table).range_like m ts)) && way_of which table (context which table w l es i) (marks which table p.part p.import) place)
  way-above w r l es s m ts i place h entered p =
      let M = marks which table (tree r l es) (tree s m ts) in
      ap₂ (λ k ps. is_open w k && way_part w M place i ps) (known-marks r l es s m ts) (parts-marks r l es s m ts ∙ ap (λ k. if k then [] else all_marks which table es ts) entered)
      ∙ ap (λ o. (is_bare r || (w && (import_rule which table).range_like m ts)) && option_map_or (λ part. way_of which table (wants_at which table w M i (known_of part).shape) part place) o false) p.mark_at
      ∙ ap (λ c. (is_bare r || (w && (import_rule which table).range_like m ts)) && way_of which table c (marks which table p.part p.import) place) (wants-now w r l es s m ts i place h entered p)

  -- nothing is above no part
  way-none : (w : Bool) (r : Run) (l : Label) (es : Trees) (s : Run) (m : Label) (ts : Trees) (i : ℕ) (place : Place) → slice_get (lists_of l (all_marks which table es ts)) i ≡ None
      → way_of which table w (marks which table (tree r l es) (tree s m ts)) (i ∷ place) ≡ true → ⊥
  way-none w r l es s m ts i place h e =
      let M = marks which table (tree r l es) (tree s m ts) in
      let none_there : slice_get (parts_of M) i ≡ None = ap (λ ps. slice_get ps i) (parts-marks r l es s m ts) ∙ h in
      false≢true (sym (ap (λ o. option_map_or (λ part. way_of which table (wants_at which table w M i (known_of part).shape) part place) o false) none_there) ∙ (and_parts (is_open w (known_of M)) _ e).1)

  pub way-told : (place : Place) (w : Bool) (e t : Tree) → Trimmed e t → (way_of which table w (marks which table e t) place ≡ true) ↔ IsWay which table w e t place
  way-told [] w (tree r l es) (tree s m ts) part =
      let same : way_of which table w (marks which table (tree r l es) (tree s m ts)) [] ≡ not (is_bare r) = ap (λ k. not k.bare) (known-marks r l es s m ts) in
      (λ h. (from_not (is_bare r)).0 (sym same ∙ h), λ h. same ∙ (from_not (is_bare r)).1 h)
  way-told (i ∷ place) w (tree r l es) (tree s m ts) part =
      let here = is_bare r || (w && (import_rule which table).range_like m ts) in (
        λ h. elim (is_closed l) as (λ k. is_closed l ≡ k → IsWay which table w (tree r l es) (tree s m ts) (i ∷ place)) [
          | true ↦ λ shut. absurd (way-none w r l es s m ts i place (ap (λ k. slice_get (if k then [] else all_marks which table es ts) i) shut) h)
          | false ↦ λ entered. elim (part-at which table es ts i place part.1.1) [
            | inl p ↦ (let both = and_parts here _ (sym (way-above w r l es s m ts i place part.1.1 entered p) ∙ h) in
                (both.0, (entered, (p.way_at (context which table w l es)).1 ((way-told place (context which table w l es i) p.part p.import p.trimmed).0 both.1))))
            | inr n ↦ absurd (way-none w r l es s m ts i place (ap (λ k. slice_get (if k then [] else all_marks which table es ts) i) entered ∙ n.none_at) h)
          ]
        ] refl,
        λ way. elim (part-at which table es ts i place part.1.1) [
          | inl p ↦ way-above w r l es s m ts i place part.1.1 way.1.0 p
              ∙ and_from here _ way.0 ((way-told place (context which table w l es i) p.part p.import p.trimmed).1 ((p.way_at (context which table w l es)).0 way.1.1))
          | inr n ↦ absurd (n.no_way (context which table w l es) way.1.1)
        ],
      )

  -- ---- what fits

  abbrev fits_part : Bool → Mark → Place → ℕ → List Mark → Bool
  fits_part w mark place i ps = option_map_or (λ part. allows
      (wants_at which table w mark i (known_of part).shape)
      (wants_at which table w mark i (known_of (commit_of table part place)).shape)
      (known_of part).settles
      && fits_of which table (wants_at which table w mark i (known_of (commit_of table part place)).shape) part place) (slice_get ps i) false

  pub fits-told : (place : Place) (v w : Bool) (e t : Tree) → Trimmed e t → IsWay which table v e t place → fits_of which table w (marks which table e t) place ≡ fits which table w e t place
  fits-told [] v w (tree r l es) (tree s m ts) part way = ap (λ k. w && k.range_like) (known-marks r l es s m ts)
  fits-told (i ∷ place) v w (tree r l es) (tree s m ts) part way = elim (part-at which table es ts i place part.1.1) [
    | inl p ↦ (
        let M = marks which table (tree r l es) (tree s m ts) in
        let P = marks which table p.part p.import in
        let xs = bared_in es i place in
        let entered = way.1.0 in
        let way_part = (p.way_at (context which table v l es)).0 way.1.1 in
        let after = commit-is place (context which table v l es i) p.part p.import p.trimmed way_part in
        ap (λ ps. fits_part w M place i ps) (parts-marks r l es s m ts ∙ ap (λ k. if k then [] else all_marks which table es ts) entered)
        ∙ ap (λ o. option_map_or (λ part. allows
        (wants_at which table w M i (known_of part).shape)
        (wants_at which table w M i (known_of (commit_of table part place)).shape)
        (known_of part).settles
        && fits_of which table (wants_at which table w M i (known_of (commit_of table part place)).shape) part place) o false) p.mark_at
        ∙ ap₂ (λ a b. allows a b (known_of P).settles && fits_of which table b P place) (wants-now w r l es s m ts i place part.1.1 entered p) (wants-next w r l es s m ts i place part.1.1 entered p after)
        ∙ ap₂ (λ own rest. allows (context which table w l es i) (context which table w l xs i) own && rest) (settles-marks p.part p.import)
        (fits-told place (context which table v l es i) (context which table w l xs i) p.part p.import p.trimmed way_part)
        ∙ sym (p.fits_at (context which table w l es i) (context which table w l xs i)))
    | inr n ↦ absurd (n.no_way (context which table v l es) way.1.1)
  ]
