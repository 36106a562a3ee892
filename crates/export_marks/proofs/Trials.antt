-- One `@` less, on the way down to it.
--   Fits     what is asked on the way: no context falls, where one rises the part there is its own import; and at the place one value is
--            wanted and the node is range-like, in the imported formula
--   rises    the shape of a formula that comes back with an `@` less is not less
--   trial    a formula that comes back does so without the `@` exactly where it fits
use Rattle.std.proofs.Common.{◌≡◌, ◌↔◌, ℕ, zero, suc, List, [], ◌∷◌, length, slice_get, Bool, true, false, not, ◌&&◌, ◌||◌, if◌then◌else◌, refl, sym, ap, ap₂, ◌∙◌, subst}
use Rattle.std.proofs.Math.Nat.{suc_inj}
use Rattle.std.proofs.lemmas.Bool.{and_parts, and_from, or_right, false≢true}
use Rattle.std.specs.List.{AllZip}
use Rattle.std.specs.Option.{option_map_or}
use Rattle.kind_table.specs.declared.static_result.StaticResult.{StaticResult}
use Rattle.kind_table.specs.Shape.{IsAtMost}
use Rattle.kind_table.specs.ShapeLaws.{IsAtMost-refl}
use Rattle.kind_table.specs.Table.{Table}
use Rattle.tree_core.specs.Label.{Label, leaf, passing, spill, closed, call}
use Rattle.tree_core.specs.Tree.{Run, Tree, tree, Trees, none, more, run_of, label_of, children_of}
use Rattle.tree_core.specs.Place.{Place}
use Rattle.shape_core.specs.Shape.{call_shape, node_shape, shape, shapes, shown_all}
use Rattle.import_core.specs.declared.rule.ImportRule.{ImportRule}
use Rattle.import_core.specs.After.{context, is_scalar, is_wanted_of, signature_of}
use Rattle.import_core.specs.Imported.{merged_run}
use Rattle.import_core.specs.ImportOf.{is_bare, opens, import_of}
use Rattle.import_core.specs.ImportRule.{import_rule, is_closed}
use Rattle.import_core.proofs.Below.{import_all, root_run, import_of-open, import_of-shut}
use Rattle.import_core.proofs.Shows.{merged-bare, rows-kept}
use Rattle.import_core.proofs.Settle.{IsMonotone, agains, context_fall, node_monotone, wants_fall}
use Rattle.export_marks.specs.Bared.{bared, bared_in}
use Rattle.export_marks.specs.Trial.{IsWay, IsWayIn}
use Rattle.export_marks.proofs.Back.{Back, AllBack, like-back, node-back, back-children, back-root, flip, back-own, head_of, rest_of}

abbrev mutual
  pub Fits : ImportRule → Table → Bool → Tree → Tree → Place → Type 0
  Fits which table w (tree r l es) (tree s m ts) [] = (w ≡ true) × ((import_rule which table).range_like m ts ≡ true)
  Fits which table w (tree r l es) (tree s m ts) (i ∷ place) = FitsIn which table (context which table w l es i) (context which table w l (bared_in es i place) i) es ts i place

  pub FitsIn : ImportRule → Table → (now next : Bool) → Trees → Trees → ℕ → Place → Type 0
  FitsIn which table now next none ts i place = ⊥
  FitsIn which table now next (more e es) none i place = ⊥
  FitsIn which table now next (more e es) (more t ts) zero place = (now ≡ true → next ≡ true) × ((now ≡ false → next ≡ true → Back which table true t t) × Fits which table next e t place)
  FitsIn which table now next (more e es) (more t ts) (suc i) place = FitsIn which table now next es ts i place

-- the part with the `@` less comes back
abbrev BackIn : ImportRule → Table → Bool → Trees → Trees → ℕ → Place → Type 0
BackIn which table c none ts i place = ⊥
BackIn which table c (more e es) none i place = ⊥
BackIn which table c (more e es) (more t ts) zero place = Back which table c (bared e place) t
BackIn which table c (more e es) (more t ts) (suc i) place = BackIn which table c es ts i place

all_itself : (shapes : List StaticResult) → AllZip IsAtMost shapes shapes
all_itself [] = tt
all_itself (s ∷ ss) = (IsAtMost-refl s, all_itself ss)

-- ---- contexts of the others stay

length-bared : (table : Table) (es : Trees) (i : ℕ) (place : Place) → length (shapes table (bared_in es i place)) ≡ length (shapes table es)
length-bared table none i place = refl
length-bared table (more e es) zero place = refl
length-bared table (more e es) (suc i) place = ap suc (length-bared table es i place)

other-shape : (table : Table) (es : Trees) (i j : ℕ) (place : Place) → ¬ (j ≡ i) → slice_get (shapes table (bared_in es i place)) j ≡ slice_get (shapes table es) j
other-shape table none i j place h = refl
other-shape table (more e es) zero zero place h = absurd (h refl)
other-shape table (more e es) zero (suc j) place h = refl
other-shape table (more e es) (suc i) zero place h = refl
other-shape table (more e es) (suc i) (suc j) place h = other-shape table es i j place (λ same. h (ap suc same))

other-context : (which : ImportRule) (table : Table) (w : Bool) (label : Label) (es : Trees) (i j : ℕ) (place : Place) → ¬ (j ≡ i) → context which table w label (bared_in es i place) j ≡ context which table w label es j
other-context which table w (leaf l) es i j place h = refl
other-context which table w (passing p) es i j place h = refl
other-context which table w spill es i j place h = refl
other-context which table w (closed c) es i j place h = refl
other-context which table w (call kind) es i j place h =
    ap₂ (λ n o. is_scalar (signature_of table kind n j) && option_map_or (is_wanted_of which kind) o false) (length-bared table es i place) (other-shape table es i j place h)

and_false : (b : Bool) → (b && false) ≡ false
and_false true = refl
and_false false = refl

not_zero_suc : (j : ℕ) → ¬ (suc j ≡ zero)
not_zero_suc j h = cc

module _ (which : ImportRule) (table : Table) where
  same_contexts : (a b : ℕ → Bool) → ((j : ℕ) → a j ≡ b j) → (es ts : Trees) → AllBack which table a es ts → AllBack which table b es ts
  same_contexts a b same es ts h = let both : a ≡ b = λ k j. same j k in subst (λ c. AllBack which table c es ts) both h

  -- the parts of a formula with the `@` less come back exactly where the one part does
  part_back : (now next : ℕ → Bool) (es ts : Trees) (i : ℕ) (place : Place) → ((j : ℕ) → ¬ (j ≡ i) → next j ≡ now j) → IsWayIn which table now es ts i place → AllBack which table now es ts
      → AllBack which table next (bared_in es i place) ts ↔ BackIn which table (next i) es ts i place
  part_back now next none ts i place agree way each = absurd way
  part_back now next (more e es) none i place agree way each = absurd way
  part_back now next (more e es) (more t ts) zero place agree way each = (
    λ h. ap (λ vs. head_of vs t) h,
    λ h. ap₂ more h (same_contexts (λ j. now (suc j)) (λ j. next (suc j)) (λ j. sym (agree (suc j) (not_zero_suc j))) es ts (ap (rest_of) each)),
  )
  part_back now next (more e es) (more t ts) (suc i) place agree way each =
      let below = part_back (λ j. now (suc j)) (λ j. next (suc j)) es ts i place (λ j h. agree (suc j) (λ same. h (suc_inj same))) way (ap (rest_of) each) in
      let first : import_of (import_rule which table) (next 0) e ≡ t = ap (λ c. import_of (import_rule which table) c e) (agree 0 (λ same. not_zero_suc i (sym same))) ∙ ap (λ vs. head_of vs t) each in
      (λ h. below.0 (ap (rest_of) h), λ h. ap₂ more first (below.1 h))

  -- what the children show is told by the imported ones
  pub shows-back : (w : Bool) (label : Label) (es ts : Trees) → AllBack which table (context which table w label es) es ts → (ss : List StaticResult) → node_shape table label (shown_all es) ss ≡ node_shape table label (shown_all ts) ss
  shows-back w (leaf l) es ts h ss = refl
  shows-back w (passing p) es ts h ss = refl
  shows-back w spill es ts h ss = refl
  shows-back w (closed c) es ts h ss = refl
  shows-back w (call kind) es ts h ss = sym (rows-kept which table (shapes table es) ss es kind) ∙ ap (λ us. call_shape table kind (shown_all us) ss) h

  -- over a range-like node where one value is wanted any run does
  same-open : (run : Run) (label : Label) (es : Trees) → (import_rule which table).range_like label es ≡ true → import_of (import_rule which table) true (tree [] label es) ≡ import_of (import_rule which table) true (tree run label es)
  same-open run label es h =
      let rule = import_rule which table in
      let root : root_run rule true [] label es ≡ root_run rule true run label es = ap (λ b. if b then true ∷ [] else merged_run []) h ∙ sym (ap (λ b. if b then true ∷ [] else merged_run run) h) in
      let all_open : is_closed label ≡ false → (r : Run) → opens rule true (tree r label es) ≡ true = λ k r. and_from (not (is_closed label)) _ (ap not k) (or_right (is_bare r) _ h) in
      let all_shut : is_closed label ≡ true → (r : Run) → opens rule true (tree r label es) ≡ false = λ k r. rw k refl in
      elim (is_closed label) as (λ k. is_closed label ≡ k → import_of rule true (tree [] label es) ≡ import_of rule true (tree run label es)) [
        | true ↦ λ k. import_of-shut rule true [] label es (all_shut k []) ∙ ap (λ r. tree r label es) root ∙ sym (import_of-shut rule true run label es (all_shut k run))
        | false ↦ λ k. import_of-open rule true [] label es (all_open k []) ∙ ap (λ r. tree r label (import_all rule (rule.context true label es) es)) root ∙ sym (import_of-open rule true run label es (all_open k run))
      ] refl

  -- over an `@` import leaves an `@`
  root-bare : (w : Bool) (run : Run) (label : Label) (es : Trees) → is_bare run ≡ false → is_bare (root_run (import_rule which table) w run label es) ≡ false
  root-bare w [] label es h = cc
  root-bare w (flag ∷ run) label es h = elim (w && (import_rule which table).range_like label es) as (λ b. is_bare (if b then true ∷ [] else merged_run (flag ∷ run)) ≡ false) [
    | true ↦ refl
    | false ↦ merged-bare flag run
  ]

  root-put : (b : Bool) → is_bare (if b then true ∷ [] else []) ≡ false → b ≡ true
  root-put true h = refl
  root-put false h = cc

module _ (which : ImportRule) (table : Table) (monotone : IsMonotone table) where
  mutual
    pub rises : (place : Place) (w v later : Bool) (e t : Tree) → IsWay which table v e t place → Back which table w e t → Back which table later (bared e place) t → IsAtMost (shape table e) (shape table (bared e place))
    rises [] w v later (tree [] l es) (tree s m ts) way h back = cc
    rises [] w v later (tree (flag ∷ r) l es) (tree s m ts) way h back = tt
    rises (i ∷ place) w v later (tree (flag ∷ r) l es) (tree s m ts) way h back = tt
    rises (i ∷ place) w v later (tree [] l es) (tree s m ts) way h back =
        let xs = bared_in es i place in
        let each = back-children which table w l es s m ts way.1.0 h in
        let each_back = back-children which table later l xs s m ts way.1.0 back in
        let up = rises_in es ts i place (context which table w l es) (context which table v l es) (context which table later l xs) way.1.1 each each_back in
        subst (λ s. IsAtMost (node_shape table l (shown_all es) (shapes table es)) s) (sym (shows-back which table later l xs ts each_back (shapes table xs)))
        (subst (λ s. IsAtMost s (node_shape table l (shown_all ts) (shapes table xs))) (sym (shows-back which table w l es ts each (shapes table es)))
        (node_monotone which table monotone l (shown_all ts) (shapes table es) (shapes table xs) up))

    pub rises_in : (es ts : Trees) (i : ℕ) (place : Place) (now vs next : ℕ → Bool) → IsWayIn which table vs es ts i place → AllBack which table now es ts → AllBack which table next (bared_in es i place) ts
        → AllZip IsAtMost (shapes table es) (shapes table (bared_in es i place))
    rises_in none ts i place now vs next way h back = absurd way
    rises_in (more e es) none i place now vs next way h back = absurd way
    rises_in (more e es) (more t ts) zero place now vs next way h back =
        (rises place (now 0) (vs 0) (next 0) e t way (ap (λ us. head_of us t) h) (ap (λ us. head_of us t) back), all_itself (shapes table es))
    rises_in (more e es) (more t ts) (suc i) place now vs next way h back =
        (IsAtMost-refl (shape table e), rises_in es ts i place (λ j. now (suc j)) (λ j. vs (suc j)) (λ j. next (suc j)) way (ap (rest_of) h) (ap (rest_of) back))

  context_rise : (w : Bool) (label : Label) (es xs : Trees) (i : ℕ) → AllZip IsAtMost (shapes table es) (shapes table xs) → context which table w label es i ≡ true → context which table w label xs i ≡ true
  context_rise w (leaf l) es xs i up e = e
  context_rise w (passing p) es xs i up e = e
  context_rise w spill es xs i up e = e
  context_rise w (closed c) es xs i up e = e
  context_rise w (call kind) es xs i up e = wants_fall which table kind (shapes table es) (shapes table xs) i up e

  -- the imported children are their own import
  own-children : (w : Bool) (label : Label) (es ts : Trees) → AllBack which table (context which table w label es) es ts → AllBack which table (context which table w label ts) ts ts
  own-children w label es ts each =
      let fall : (i : ℕ) → context which table w label ts i ≡ true → context which table w label es i ≡ true =
      λ i e. context_fall which table monotone w w (λ x. x) label es i (subst (λ us. context which table w label us i ≡ true) (sym each) e) in
      subst (λ us. AllBack which table (context which table w label ts) us us) each (agains which table monotone (context which table w label es) (context which table w label ts) fall es)

  pub like-kept : (w : Bool) (label : Label) (es ts : Trees) → (is_closed label ≡ false → AllBack which table (context which table w label es) es ts) → (import_rule which table).range_like label es ≡ (import_rule which table).range_like label ts
  like-kept w (leaf l) es ts each = refl
  like-kept w (passing p) es ts each = refl
  like-kept w spill es ts each = refl
  like-kept w (closed c) es ts each = refl
  like-kept w (call kind) es ts each = like-back which table w (call kind) es ts (each refl) ∙ sym (like-back which table w (call kind) ts ts (own-children w (call kind) es ts (each refl)))

  -- at the place itself
  here : (w : Bool) (run : Run) (l : Label) (es : Trees) (s : Run) (ts : Trees) → is_bare run ≡ false → Back which table w (tree run l es) (tree s l ts)
      → Back which table w (tree [] l es) (tree s l ts) ↔ ((w ≡ true) × ((import_rule which table).range_like l ts ≡ true))
  here w run l es s ts shut h =
      let rule = import_rule which table in
      let kept : is_bare s ≡ false = subst (λ r. is_bare r ≡ false) (ap run_of h) (root-bare which table w run l es shut) in (
        λ back. (let both = and_parts w _ (root-put which table (w && rule.range_like l es) (subst (λ r. is_bare r ≡ false) (sym (ap run_of back)) kept)) in
            (both.0, sym (like-kept w l es ts (λ entered. back-children which table w l es s l ts entered back)) ∙ both.1)),
        λ fits. (let wide : Back which table true (tree run l es) (tree s l ts) = subst (λ b. Back which table b (tree run l es) (tree s l ts)) fits.0 h in
            subst (λ b. Back which table b (tree [] l es) (tree s l ts)) (sym fits.0)
            (elim (rule.range_like l es) as (λ b. rule.range_like l es ≡ b → Back which table true (tree [] l es) (tree s l ts)) [
              | true ↦ λ large. same-open which table run l es large ∙ wide
              | false ↦ λ small. (let not_open : opens rule true (tree run l es) ≡ false = rw (shut, small) (and_false _) in
                  let same : es ≡ ts = ap children_of (sym (import_of-shut rule true run l es not_open) ∙ wide) in
                  absurd (false≢true (sym small ∙ ap (rule.range_like l) same ∙ fits.1)))
            ] refl)),
      )

  moved : (now next : Bool) (e t : Tree) → (now ≡ true → next ≡ true) → (now ≡ false → next ≡ true → Back which table true t t) → Back which table now e t → Back which table next e t
  moved true true e t up own h = h
  moved true false e t up own h = absurd (false≢true (up refl))
  moved false true e t up own h = flip which table e t h (own refl refl)
  moved false false e t up own h = h

  -- what import enters comes back with an `@` over it exactly where it does without
  pub opened : (w : Bool) (run : Run) (l : Label) (es : Trees) (s : Run) (ts : Trees) → (is_bare run || (w && (import_rule which table).range_like l ts)) ≡ true
      → Back which table w (tree run l es) (tree s l ts) → Back which table w (tree [] l es) (tree s l ts)
  opened w [] l es s ts way h = h
  opened w (flag ∷ run) l es s ts way h = (here w (flag ∷ run) l es s ts refl h).1 (let both = and_parts w _ way in (both.0, both.1))

  covered : (w : Bool) (run : Run) (l : Label) (es : Trees) (s : Run) (ts : Trees) → (is_bare run || (w && (import_rule which table).range_like l ts)) ≡ true → is_closed l ≡ false
      → Back which table w (tree [] l es) (tree s l ts) → Back which table w (tree run l es) (tree s l ts)
  covered w [] l es s ts way entered h = h
  covered w (flag ∷ run) l es s ts way entered h =
      let both = and_parts w _ way in
      let large : (import_rule which table).range_like l es ≡ true = like-kept w l es ts (λ k. back-children which table w l es s l ts k h) ∙ both.1 in
      subst (λ b. Back which table b (tree (flag ∷ run) l es) (tree s l ts)) (sym both.0)
      (sym (same-open which table (flag ∷ run) l es large) ∙ subst (λ b. Back which table b (tree [] l es) (tree s l ts)) both.0 h)

  context_up : (w later : Bool) → (w ≡ true → later ≡ true) → (label : Label) (es : Trees) (i : ℕ) → context which table w label es i ≡ true → context which table later label es i ≡ true
  context_up w later up (leaf l) es i e = e
  context_up w later up (passing p) es i e = up e
  context_up w later up spill es i e = up e
  context_up w later up (closed c) es i e = e
  context_up w later up (call kind) es i e = e

  open_up : (w later b c : Bool) → (w ≡ true → later ≡ true) → (b || (w && c)) ≡ true → (b || (later && c)) ≡ true
  open_up w later true c up h = refl
  open_up true later false c up h = and_from later c (up refl) h
  open_up false later false c up h = cc

  mutual
    way_up : (place : Place) (w later : Bool) (e t : Tree) → (w ≡ true → later ≡ true) → IsWay which table w e t place → IsWay which table later e t place
    way_up [] w later (tree r l es) (tree s m ts) up way = way
    way_up (i ∷ place) w later (tree r l es) (tree s m ts) up way =
        (open_up w later (is_bare r) _ up way.0, (way.1.0, way_up_in es ts i place (context which table w l es) (context which table later l es) (context_up w later up l es) way.1.1))

    way_up_in : (es ts : Trees) (i : ℕ) (place : Place) (now next : ℕ → Bool) → ((j : ℕ) → now j ≡ true → next j ≡ true) → IsWayIn which table now es ts i place → IsWayIn which table next es ts i place
    way_up_in none ts i place now next up way = absurd way
    way_up_in (more e es) none i place now next up way = absurd way
    way_up_in (more e es) (more t ts) zero place now next up way = way_up place (now 0) (next 0) e t (up 0) way
    way_up_in (more e es) (more t ts) (suc i) place now next up way = way_up_in es ts i place (λ j. now (suc j)) (λ j. next (suc j)) (λ j. up (suc j)) way

  mutual
    pub trial : (place : Place) (w : Bool) (e t : Tree) → IsWay which table w e t place → Back which table w e t → Back which table w (bared e place) t ↔ Fits which table w e t place
    trial [] w (tree run l es) (tree s m ts) way h =
        let label : l ≡ m = ap label_of h in
        subst (λ k. Back which table w (tree [] l es) (tree s k ts) ↔ ((w ≡ true) × ((import_rule which table).range_like k ts ≡ true))) label
        (here w run l es s ts way (h ∙ ap (λ k. tree s k ts) (sym label)))
    trial (i ∷ place) w (tree run l es) (tree s m ts) way h =
        let xs = bared_in es i place in
        let label : l ≡ m = ap label_of h in
        let is_open : (is_bare run || (w && (import_rule which table).range_like l ts)) ≡ true = subst (λ k. (is_bare run || (w && (import_rule which table).range_like k ts)) ≡ true) (sym label) way.0 in
        let bare : Back which table w (tree [] l es) (tree s l ts) = opened w run l es s ts is_open (h ∙ ap (λ k. tree s k ts) (sym label)) in
        let now = context which table w l es in
        let next = context which table w l xs in
        let each = back-children which table w l es s l ts way.1.0 bare in
        let part = part_back which table now next es ts i place (λ j. other-context which table w l es i j place) way.1.1 each in
        let rise : BackIn which table (next i) es ts i place → now i ≡ true → next i ≡ true = λ back. context_rise w l es xs i (rises_in es ts i place now now next way.1.1 each (part.1 back)) in
        let below = trial_in es ts i place now (next i) way.1.1 each rise in (
          λ back. below.0 (part.0 (back-children which table w l xs s l ts way.1.0 (opened w run l xs s ts is_open (back ∙ ap (λ k. tree s k ts) (sym label))))),
          λ fits. covered w run l xs s ts is_open way.1.0 (node-back which table w l xs s ts way.1.0 (part.1 (below.1 fits)) (back-root which table w l es s l ts way.1.0 bare)) ∙ ap (λ k. tree s k ts) label,
        )

    pub trial_in : (es ts : Trees) (i : ℕ) (place : Place) (now : ℕ → Bool) (next : Bool) → IsWayIn which table now es ts i place → AllBack which table now es ts
        → (BackIn which table next es ts i place → now i ≡ true → next ≡ true) → BackIn which table next es ts i place ↔ FitsIn which table (now i) next es ts i place
    trial_in none ts i place now next way each rise = absurd way
    trial_in (more e es) none i place now next way each rise = absurd way
    trial_in (more e es) (more t ts) zero place now next way each rise =
        let h : Back which table (now 0) e t = ap (λ vs. head_of vs t) each in (
          λ back. (let own : now 0 ≡ false → next ≡ true → Back which table true t t = λ low high. back-own which table monotone next true (λ x. high) (bared e place) t back in
              (rise back, (own, (trial place next e t (way_up place (now 0) next e t (rise back) way) (moved (now 0) next e t (rise back) own h)).0 back))),
          λ fits. (trial place next e t (way_up place (now 0) next e t fits.0 way) (moved (now 0) next e t fits.0 fits.1.0 h)).1 fits.1.1,
        )
    trial_in (more e es) (more t ts) (suc i) place now next way each rise = trial_in es ts i place (λ j. now (suc j)) next way (ap (rest_of) each) rise
