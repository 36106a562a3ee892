-- What is known of an imported formula once its put `@`s go or stand again is what is known of that formula.
--   goes, stands   there: from the marks of the formula with them to those without, and back
use Rattle.std.proofs.Common.{◌≡◌, ℕ, suc, Bool, true, false, not, ◌||◌, if◌then◌else◌, [], ◌∷◌, slice_get, Some, None, refl, sym, ap, ap₂, ◌∙◌}
use Rattle.std.specs.Option.{option_map_or}
use Rattle.kind_table.specs.declared.shown.Shown.{Shown}
use Rattle.kind_table.specs.declared.static_result.StaticResult.{StaticResult}
use Rattle.kind_table.specs.declared.static_result.StaticResult.TheVariants.{Scalar}
use Rattle.kind_table.specs.Table.{Table}
use Rattle.tree_core.specs.Label.{Label}
use Rattle.tree_core.specs.Tree.{Run, Tree, tree, Trees, none, more}
use Rattle.shape_core.specs.Shape.{shapes, shown, shown_all}
use Rattle.import_core.specs.declared.rule.ImportRule.{ImportRule}
use Rattle.import_core.specs.ImportOf.{is_bare}
use Rattle.import_core.specs.ImportRule.{import_rule, is_closed}
use Rattle.import_core.proofs.Shows.{any_children}
use Rattle.export_marks.specs.Trial.{settles}
use Rattle.mark_core.specs.declared.mark.Mark.{Mark}
use Rattle.mark_core.specs.Mark.{known_of, mark_of, face}
use Rattle.import_marks.specs.Marks.{marks, all_marks, form_of}
use Rattle.import_marks.proofs.Drops.{bare-is, known-marks, parts-marks, seen-marks, shape-marks}
use Rattle.mark_return.specs.Put.{is_put, without_put, all_without_put}
use Rattle.mark_runs.specs.Turned.{Row, covered, part_set, row_of, turned, turned_part, turned_row, uncovered}

-- the formula without its put `@`s, or with them
abbrev left : Bool → Tree → Tree
left true t = without_put t
left false t = t

abbrev lefts : Bool → Trees → Trees
lefts true ts = all_without_put ts
lefts false ts = ts

lefts-none : (out : Bool) → lefts out none ≡ none
lefts-none true = refl
lefts-none false = refl

lefts-more : (out : Bool) (t : Tree) (ts : Trees) → lefts out (more t ts) ≡ more (left out t) (lefts out ts)
lefts-more true t ts = refl
lefts-more false t ts = refl

-- the parts of a node that import enters, or of one that it doesn't
abbrev parts_left : Bool → Label → Trees → Trees
parts_left out label ts = if is_closed label then ts else lefts out ts

if-same : {A : Type 0} (b : Bool) (x : A) → x ≡ (if b then x else x)
if-same true x = refl
if-same false x = refl

left-bare : (out : Bool) (label : Label) (ts : Trees) → left out (tree [] label ts) ≡ tree [] label (parts_left out label ts)
left-bare true label ts = refl
left-bare false label ts = ap (tree [] label) (if-same (is_closed label) ts)

left-put : (out : Bool) (run : Run) (label : Label) (ts : Trees) → is_bare run ≡ false → is_put run label ≡ true → left out (tree run label ts) ≡ tree (if out then [] else run) label (parts_left out label ts)
left-put true run label ts shut put = ap₂ (λ b c. if b || c then tree [] label (parts_left true label ts) else tree run label ts) shut put
left-put false run label ts shut put = ap (tree run label) (if-same (is_closed label) ts)

left-kept : (out : Bool) (run : Run) (label : Label) (ts : Trees) → is_bare run ≡ false → is_put run label ≡ false → left out (tree run label ts) ≡ tree run label ts
left-kept true run label ts shut put = ap₂ (λ b c. if b || c then tree [] label (parts_left true label ts) else tree run label ts) shut put
left-kept false run label ts shut put = refl

-- ---- rows

abbrev before : StaticResult → Shown → Mark → Row → Row
before s h m row = record { shapes = s ∷ row.shapes; shows = h ∷ row.shows; marks = m ∷ row.marks }

module _ (table : Table) (out : Bool) where
  part-behind : (s : StaticResult) (h : Shown) (m : Mark) (row : Row) (i : ℕ) (t : Tree) → turned_part table out (before s h m row) (suc i) t ≡ before s h m (turned_part table out row i t)
  part-behind s h m row i t = elim (slice_get row.marks i) as (λ o. option_map_or (λ part. part_set (before s h m row) (suc i) (turned table out part t)) o (before s h m row)
      ≡ before s h m (option_map_or (λ part. part_set row i (turned table out part t)) o row)) [
        | None ↦ refl
        | Some part ↦ refl
      ]

  row-behind : (s : StaticResult) (h : Shown) (m : Mark) (row : Row) (i : ℕ) (ts : Trees) → turned_row table out (before s h m row) (suc i) ts ≡ before s h m (turned_row table out row i ts)
  row-behind s h m row i none = refl
  row-behind s h m row i (more t ts) = ap (λ r. turned_row table out r (suc (suc i)) ts) (part-behind s h m row i t) ∙ row-behind s h m (turned_part table out row i t) (suc i) ts

module _ (which : ImportRule) (table : Table) where
  face-marks : (e t : Tree) → face (known_of (marks which table e t)) ≡ shown e
  face-marks e t = ap (λ s. s.shows) (seen-marks which table e t)

  -- what is known of the parts of a node, for a formula and the imported one
  abbrev row : Trees → Trees → Row
  row es ts = record { shapes = shapes table es; shows = shown_all es; marks = all_marks which table es ts }

  abbrev row_in : Label → Trees → Trees → Row
  row_in label es ts = record {
    shapes = (if is_closed label then [] else shapes table es);
    shows = (if is_closed label then [] else shown_all es);
    marks = (if is_closed label then [] else all_marks which table es ts);
  }

  row-marks : (r : Run) (l : Label) (es : Trees) (s : Run) (m : Label) (ts : Trees) → row_of (marks which table (tree r l es) (tree s m ts)) ≡ row_in l es ts
  row-marks r l es s m ts = ap₂ (λ k ps. record { shapes = k.shapes; shows = k.shows; marks = ps }) (known-marks which table r l es s m ts) (parts-marks which table r l es s m ts)

  -- the marks of a bare node, from what is known of it otherwise and of its parts
  bare-marks : (r : Run) (l : Label) (es xs : Trees) (s : Run) (ts : Trees) → uncovered table (known_of (marks which table (tree r l es) (tree s l ts))) (row_in l xs ts) ≡ marks which table (tree [] l xs) (tree s l ts)
  bare-marks r l es xs s ts =
      ap (λ k. uncovered table k (row_in l xs ts)) (known-marks which table r l es s l ts)
      ∙ ap₂ (λ whole alone. mark_of (record {
        form = form_of l;
        bare = true;
        range_like = (import_rule which table).range_like l ts;
        settles = settles which table true (tree s l ts);
        alone = alone;
        shape = whole;
        shapes = (if is_closed l then [] else shapes table xs);
        shows = (if is_closed l then [] else shown_all xs);
      }) (if is_closed l then [] else all_marks which table xs ts)) (bare-is which table l xs) (any_children l es xs)

  -- and under an `@`
  under-marks : (flag : Bool) (r : Run) (l : Label) (xs : Trees) (s : Run) (ts : Trees) → covered (marks which table (tree [] l xs) (tree s l ts)) ≡ marks which table (tree (flag ∷ r) l xs) (tree s l ts)
  under-marks flag r l xs s ts = ap₂ (λ k ps. mark_of (record {
    form = k.form;
    bare = false;
    range_like = k.range_like;
    settles = k.settles;
    alone = k.alone;
    shape = Scalar;
    shapes = k.shapes;
    shows = k.shows;
  }) ps) (known-marks which table [] l xs s l ts) (parts-marks which table [] l xs s l ts)

  abbrev Turns : Bool → Tree → Type 0
  Turns out t = turned table out (marks which table (left (not out) t) t) t ≡ marks which table (left out t) t

  -- at a node, from its parts
  at_bare : (out : Bool) (r : Run) (l : Label) (s : Run) (ts : Trees) → turned_row table out (row (lefts (not out) ts) ts) 0 ts ≡ row (lefts out ts) ts
      → (let M = marks which table (tree r l (parts_left (not out) l ts)) (tree s l ts) in
      uncovered table (known_of M) (if is_closed l then row_of M else turned_row table out (row_of M) 0 ts)) ≡ marks which table (tree [] l (parts_left out l ts)) (tree s l ts)
  at_bare out r l s ts parts =
      let es = parts_left (not out) l ts in
      let xs = parts_left out l ts in
      let M = marks which table (tree r l es) (tree s l ts) in
      ap (λ w. uncovered table (known_of M) (if is_closed l then w else turned_row table out w 0 ts)) (row-marks r l es s l ts)
      ∙ ap (uncovered table (known_of M)) (inside (is_closed l))
      ∙ bare-marks r l es xs s ts
    where
      row_if : Bool → Trees → Row
      row_if shut es = record { shapes = (if shut then [] else shapes table es); shows = (if shut then [] else shown_all es); marks = (if shut then [] else all_marks which table es ts) }

      inside : (shut : Bool) → (if shut then row_if shut (if shut then ts else lefts (not out) ts) else turned_row table out (row_if shut (if shut then ts else lefts (not out) ts)) 0 ts)
          ≡ row_if shut (if shut then ts else lefts out ts)
      inside true = refl
      inside false = parts

  at_put : (out : Bool) (run : Run) (l : Label) (ts : Trees) → is_bare run ≡ false → is_put run l ≡ true
      → (let M = marks which table (tree (if not out then [] else run) l (parts_left (not out) l ts)) (tree run l ts) in
      uncovered table (known_of M) (if is_closed l then row_of M else turned_row table out (row_of M) 0 ts)) ≡ marks which table (tree [] l (parts_left out l ts)) (tree run l ts)
      → Turns out (tree run l ts)
  at_put out run l ts shut put bare =
      let M = marks which table (tree (if not out then [] else run) l (parts_left (not out) l ts)) (tree run l ts) in
      let B = uncovered table (known_of M) (if is_closed l then row_of M else turned_row table out (row_of M) 0 ts) in
      ap (λ e. turned table out (marks which table e (tree run l ts)) (tree run l ts)) (left-put (not out) run l ts shut put)
      ∙ ap₂ (λ b c. if b then B else (if c then (if out then B else covered B) else M)) shut put
      ∙ ap (λ b. if out then b else covered b) bare
      ∙ ends out run shut
      ∙ sym (ap (λ e. marks which table e (tree run l ts)) (left-put out run l ts shut put))
    where
      ends : (o : Bool) (r : Run) → is_bare r ≡ false → (if o then marks which table (tree [] l (parts_left out l ts)) (tree run l ts) else covered (marks which table (tree [] l (parts_left out l ts)) (tree run l ts)))
          ≡ marks which table (tree (if o then [] else r) l (parts_left out l ts)) (tree run l ts)
      ends true r h = refl
      ends false [] h = cc
      ends false (flag ∷ r) h = under-marks flag r l (parts_left out l ts) run ts

  at_kept : (out : Bool) (run : Run) (l : Label) (ts : Trees) → is_bare run ≡ false → is_put run l ≡ false → Turns out (tree run l ts)
  at_kept out run l ts shut put =
      let M = marks which table (tree run l ts) (tree run l ts) in
      let B = uncovered table (known_of M) (if is_closed l then row_of M else turned_row table out (row_of M) 0 ts) in
      ap (λ e. turned table out (marks which table e (tree run l ts)) (tree run l ts)) (left-kept (not out) run l ts shut put)
      ∙ ap₂ (λ b c. if b then B else (if c then (if out then B else covered B) else M)) shut put
      ∙ sym (ap (λ e. marks which table e (tree run l ts)) (left-kept out run l ts shut put))

  mutual
    turns : (out : Bool) (t : Tree) → Turns out t
    turns out (tree [] l ts) =
        ap (λ e. turned table out (marks which table e (tree [] l ts)) (tree [] l ts)) (left-bare (not out) l ts)
        ∙ at_bare out [] l [] ts (turns_row out ts)
        ∙ sym (ap (λ e. marks which table e (tree [] l ts)) (left-bare out l ts))
    turns out (tree (flag ∷ run) l ts) = elim (is_put (flag ∷ run) l) as (λ b. is_put (flag ∷ run) l ≡ b → Turns out (tree (flag ∷ run) l ts)) [
      | true ↦ λ put. at_put out (flag ∷ run) l ts refl put (at_bare out (if not out then [] else flag ∷ run) l (flag ∷ run) ts (turns_row out ts))
      | false ↦ λ kept. at_kept out (flag ∷ run) l ts refl kept
    ] refl

    turns_row : (out : Bool) (ts : Trees) → turned_row table out (row (lefts (not out) ts) ts) 0 ts ≡ row (lefts out ts) ts
    turns_row out none = ap (λ es. row es none) (lefts-none (not out)) ∙ sym (ap (λ es. row es none) (lefts-none out))
    turns_row out (more t ts) =
        let e = left (not out) t in
        let x = left out t in
        let es = lefts (not out) ts in
        let m = marks which table e t in
        let n = marks which table x t in
        ap (λ us. turned_row table out (row us (more t ts)) 0 (more t ts)) (lefts-more (not out) t ts)
        ∙ ap (λ w. turned_row table out (before (known_of w).shape (face (known_of w)) w (row es ts)) 1 ts) (turns out t)
        ∙ row-behind table out (known_of n).shape (face (known_of n)) n (row es ts) 0 ts
        ∙ ap (before (known_of n).shape (face (known_of n)) n) (turns_row out ts)
        ∙ ap₂ (λ s h. before s h n (row (lefts out ts) ts)) (shape-marks which table x t) (face-marks x t)
        ∙ sym (ap (λ us. row us (more t ts)) (lefts-more out t ts))

  pub goes : (t : Tree) (old new : Mark) → new ≡ turned table true old t → old ≡ marks which table t t → new ≡ marks which table (without_put t) t
  goes t old new is told = is ∙ ap (λ m. turned table true m t) told ∙ turns true t

  pub stands : (t : Tree) (old new : Mark) → new ≡ turned table false old t → old ≡ marks which table (without_put t) t → new ≡ marks which table t t
  stands t old new is told = is ∙ ap (λ m. turned table false m t) told ∙ turns false t
