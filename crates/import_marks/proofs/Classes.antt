-- What is made of a formula, by its class.
--   settles-told, shown-told, mark-made  what is told of a formula tells whether it settles and what it shows; and its mark is that of it
--   classes   what is made of each class of nodes, from what is made of its parts
--   argument  one argument in its context
--   made-call a call over its arguments
--   parts-on, settle-on  one argument more
use Rattle.std.proofs.Common.{◌≡◌, ℕ, zero, suc, ◌+◌, Some, take, slice_get, List, [], ◌∷◌, ◌++◌, length, map, Bool, true, false, not, ◌&&◌, ◌||◌, if◌then◌else◌, refl, sym, ap, ap₂, ◌∙◌}
use Rattle.call_core.specs.declared.function.Function.{Function}
use Rattle.kind_table.specs.declared.shown.Shown.{Shown}
use Rattle.kind_table.specs.declared.shown.Shown.TheVariants.{Nothing}
use Rattle.kind_table.specs.declared.static_result.StaticResult.{StaticResult}
use Rattle.kind_table.specs.declared.static_result.StaticResult.TheVariants.{Scalar, Unknown}
use Rattle.kind_table.specs.Shape.{combined}
use Rattle.kind_table.specs.Table.{Table}
use Rattle.value_core.specs.declared.operator.Operator.{Operator}
use Rattle.value_core.specs.declared.operator.OpUnary.{OpUnary}
use Rattle.tree_core.specs.Formula.{tree_of, one, between, bare_leaf}
use Rattle.tree_core.specs.Label.{Leaf, Closed, passing, unary, spill, closed, call}
use Rattle.tree_core.specs.Tree.{Run, Tree, tree, Trees, forest, under}
use Rattle.tree_core.specs.declared.node.Node.{Node}
use Rattle.tree_core.proofs.Parts.{take-on}
use Rattle.shape_core.specs.Shape.{call_shape, shape, shapes, shown, shown_all}
use Rattle.import_core.specs.declared.rule.ImportRule.{ImportRule}
use Rattle.import_core.specs.After.{after, after_all, argument_contexts, binds, context, is_large}
use Rattle.import_core.specs.Decisions.{argument_shapes}
use Rattle.import_core.specs.ImportOf.{is_bare}
use Rattle.import_core.specs.ImportRule.{import_rule, is_closed}
use Rattle.import_core.proofs.Arguments.{each-afters}
use Rattle.import_core.proofs.Decides.{calls-under}
use Rattle.export_marks.specs.Trial.{run_settles, settles, settle}
use Rattle.mark_core.specs.declared.mark.Form.{Form}
use Rattle.mark_core.specs.declared.mark.Form.TheVariants as form
use Rattle.mark_core.specs.declared.mark.Mark.{Mark, roll-Mark}
use Rattle.import_marks.specs.declared.told.Over.{Over}
use Rattle.import_marks.specs.declared.told.Over.TheVariants.{Bare}
use Rattle.import_marks.specs.declared.told.Told.{Told}
use Rattle.import_marks.specs.declared.made.Made.{Made}
use Rattle.import_marks.specs.declared.made.Parts.{Parts}
use Rattle.import_marks.specs.Marks.{marks, all_marks, form_of}
use Rattle.import_marks.specs.Made.{over_of, one_more, is_bare_over, told_of, settles_as, settles_by, shown_by, mark_by, no_parts, parts_of, made_of, leaf_made, closed_made, unary_made, spill_made, between_made, under_made, call_told}

and_true : (b : Bool) → (b && true) ≡ b
and_true true = refl
and_true false = refl

pub bare-over : (run : Run) → is_bare_over (over_of run) ≡ is_bare run
bare-over [] = refl
bare-over (flag ∷ []) = refl
bare-over (outer ∷ flag ∷ run) = refl

over-more : (flag : Bool) (run : Run) → over_of (flag ∷ run) ≡ one_more (over_of run)
over-more flag [] = refl
over-more flag (next ∷ []) = refl
over-more flag (next ∷ other ∷ run) = refl

-- by the run, by whether import puts an `@`, whether it enters the node, and whether the children settle
settles-cases : (run : Run) (put shut below : Bool) → settles_as (over_of run) put (shut || below) ≡ (run_settles put run && (not (not shut && (is_bare run || put)) || below))
settles-cases [] true true below = refl
settles-cases [] true false below = refl
settles-cases [] false true below = refl
settles-cases [] false false below = refl
settles-cases (flag ∷ []) true true below = refl
settles-cases (flag ∷ []) true false below = refl
settles-cases (flag ∷ []) false true below = refl
settles-cases (flag ∷ []) false false below = refl
settles-cases (outer ∷ flag ∷ run) true shut below = refl
settles-cases (outer ∷ flag ∷ run) false shut below = refl

abbrev of_told : Told → Form → Parts → Made
of_told told form parts = record { told = told; form = form; parts = parts }

abbrev of_lists : List StaticResult → List Shown → List Mark → Parts
of_lists shapes shows marks = record { shapes = shapes; shows = shows; marks = marks }

abbrev of_operator : (given unwanted wanted : StaticResult) → (settled_unwanted settled_wanted : Bool) → Told
of_operator given unwanted wanted settled_unwanted settled_wanted = record {
  over = Bare;
  range_like = false;
  alone = Nothing;
  given = given;
  unwanted = unwanted;
  wanted = wanted;
  settled_unwanted = settled_unwanted;
  settled_wanted = settled_wanted;
}

abbrev of_over : Told → Over → Told
of_over told over = record {
  over = over;
  range_like = told.range_like;
  alone = told.alone;
  given = Scalar;
  unwanted = Scalar;
  wanted = Scalar;
  settled_unwanted = told.settled_unwanted;
  settled_wanted = told.settled_wanted;
}

abbrev of_known : Form → Told → (bare settles : Bool) → List StaticResult → List Shown → List Mark → Mark
of_known form told bare settles shapes shows marks = roll-Mark (record {
  known = record { form = form; bare = bare; range_like = told.range_like; settles = settles; alone = told.alone; shape = told.given; shapes = shapes; shows = shows };
  parts = marks;
})

module _ (which : ImportRule) (table : Table) where
  pub settles-told : (add : Bool) (t : Tree) → settles_by (told_of which table t) add ≡ settles which table add t
  settles-told true (tree run label ts) = settles-cases run ((import_rule which table).range_like label ts) (is_closed label) (settle which table (context which table true label ts) ts)
  settles-told false (tree run label ts) = settles-cases run false (is_closed label) (settle which table (context which table false label ts) ts)

  pub shown-told : (t : Tree) → shown_by (told_of which table t) ≡ shown t
  shown-told (tree [] label ts) = refl
  shown-told (tree (flag ∷ []) label ts) = refl
  shown-told (tree (outer ∷ flag ∷ run) label ts) = refl

  pub given-told : (t : Tree) → (told_of which table t).given ≡ shape table t
  given-told (tree run label ts) = refl

  given-made : (t : Tree) → (made_of which table t).told.given ≡ shape table t
  given-made (tree run label ts) = refl

  shown-made : (t : Tree) → shown_by (made_of which table t).told ≡ shown t
  shown-made (tree run label ts) = shown-told (tree run label ts)

  pub mark-made : (t : Tree) → mark_by (made_of which table t) ≡ marks which table t t
  mark-made (tree run label ts) =
      let t = tree run label ts in
      let told = told_of which table t in
      let parts = if is_closed label then no_parts else parts_of which table ts in
      ap₂ (λ b s. of_known (form_of label) told b s parts.shapes parts.shows parts.marks) (bare-over run) (settles-told true t)
      ∙ elim (is_closed label) as (λ c.
      of_known (form_of label) told (is_bare run) (settles which table true t) (if c then no_parts else parts_of which table ts).shapes (if c then no_parts else parts_of which table ts).shows (if c then no_parts else parts_of which table ts).marks
      ≡ of_known (form_of label) told (is_bare run) (settles which table true t) (if c then [] else shapes table ts) (if c then [] else shown_all ts) (if c then [] else all_marks which table ts ts)) [
        | true ↦ refl
        | false ↦ refl
      ]

  pub mark-of : (t : Tree) (found : Made) → found ≡ made_of which table t → mark_by found ≡ marks which table t t
  mark-of t found e = ap mark_by e ∙ mark-made t

  -- ---- each class

  pub made-leaf : (l : Leaf) → made_of which table (bare_leaf l) ≡ leaf_made l
  made-leaf l = refl

  pub made-closed : (c : Closed) (ts : Trees) → made_of which table (tree [] (closed c) ts) ≡ closed_made c
  made-closed c ts = refl

  settled-one : (add : Bool) (t : Tree) → (settles which table add t && true) ≡ settles_by (told_of which table t) add
  settled-one add t = and_true (settles which table add t) ∙ sym (settles-told add t)

  settled-two : (add : Bool) (t u : Tree) → (settles which table add t && (settles which table add u && true)) ≡ (settles_by (told_of which table t) add && settles_by (told_of which table u) add)
  settled-two add t u = ap₂ (λ a b. a && b) (sym (settles-told add t)) (settled-one add u)

  pub made-unary : (kind : OpUnary) (t : Tree) → made_of which table (tree [] (passing (unary kind)) (one t)) ≡ unary_made (made_of which table t)
  made-unary kind (tree run label ts) =
      let t = tree run label ts in
      let build = λ (s v : Bool) (h : Shown) (m : Mark). of_told (of_operator (shape table t) (after which table false t) (after which table true t) s v) form.Passing (of_lists (shape table t ∷ []) (h ∷ []) (m ∷ [])) in
      ap₂ (λ s v. build s v (shown t) (marks which table t t)) (settled-one false t) (settled-one true t)
      ∙ ap₂ (λ h m. build (settles_by (told_of which table t) false) (settles_by (told_of which table t) true) h m) (sym (shown-told t)) (sym (mark-made t))

  pub made-spill : (t : Tree) → made_of which table (tree [] spill (one t)) ≡ spill_made (made_of which table t)
  made-spill (tree run label ts) =
      let t = tree run label ts in
      let build = λ (s v : Bool) (h : Shown) (m : Mark). of_told (of_operator Unknown Unknown Unknown s v) form.Spill (of_lists (shape table t ∷ []) (h ∷ []) (m ∷ [])) in
      ap₂ (λ s v. build s v (shown t) (marks which table t t)) (settled-one false t) (settled-one true t)
      ∙ ap₂ (λ h m. build (settles_by (told_of which table t) false) (settles_by (told_of which table t) true) h m) (sym (shown-told t)) (sym (mark-made t))

  pub made-between : (operator : Operator) (t u : Tree) → made_of which table (between operator t u) ≡ between_made (made_of which table t) (made_of which table u)
  made-between operator (tree run label ts) (tree run' label' us) =
      let t = tree run label ts in
      let u = tree run' label' us in
      let build = λ (s v : Bool) (h i : Shown) (m n : Mark). of_told
      (of_operator (combined (shape table t) (shape table u)) (combined (after which table false t) (after which table false u)) (combined (after which table true t) (after which table true u)) s v)
      form.Passing (of_lists (shape table t ∷ shape table u ∷ []) (h ∷ i ∷ []) (m ∷ n ∷ [])) in
      let low = settles_by (told_of which table t) false && settles_by (told_of which table u) false in
      let high = settles_by (told_of which table t) true && settles_by (told_of which table u) true in
      ap₂ (λ s v. build s v (shown t) (shown u) (marks which table t t) (marks which table u u)) (settled-two false t u) (settled-two true t u)
      ∙ ap₂ (λ h i. build low high h i (marks which table t t) (marks which table u u)) (sym (shown-told t)) (sym (shown-told u))
      ∙ ap₂ (λ m n. build low high (shown_by (told_of which table t)) (shown_by (told_of which table u)) m n) (sym (mark-made t)) (sym (mark-made u))

  pub made-under : (automatic : Bool) (t : Tree) → made_of which table (under automatic t) ≡ under_made (made_of which table t)
  made-under automatic (tree run label ts) =
      ap (λ o. of_told (of_over (told_of which table (tree run label ts)) o) (form_of label) (if is_closed label then no_parts else parts_of which table ts)) (over-more automatic run)

  -- ---- a call

  pub made-call : (kind : Function) (args : List Node) (parts : Parts) (imported_shapes : List StaticResult) (given imported : StaticResult) (like settled : Bool)
      → parts ≡ parts_of which table (forest (map tree_of args)) → imported_shapes ≡ argument_shapes which table kind args
      → given ≡ call_shape table kind (shown_all (forest (map tree_of args))) parts.shapes
      → imported ≡ call_shape table kind (shown_all (forest (map tree_of args))) imported_shapes
      → like ≡ (not (binds kind) && is_large imported) → settled ≡ settle which table (argument_contexts which table kind (forest (map tree_of args))) (forest (map tree_of args))
      → (told : Told) → told ≡ call_told like given imported settled
      → of_told told (form.Call kind) parts ≡ made_of which table (tree [] (call kind) (forest (map tree_of args)))
  made-call kind args parts imported_shapes given imported like settled p a g i l s told e =
      let ts = forest (map tree_of args) in
      let given_is : given ≡ call_shape table kind (shown_all ts) (shapes table ts) = g ∙ ap (λ ps. call_shape table kind (shown_all ts) ps.shapes) p in
      let imported_is : imported ≡ call_shape table kind (shown_all ts) (after_all which table (argument_contexts which table kind ts) ts) =
      i ∙ ap (call_shape table kind (shown_all ts)) (a ∙ each-afters which table (argument_contexts which table kind ts) args) in
      let build = λ (like : Bool) (given imported : StaticResult) (settled : Bool) (parts : Parts). of_told (call_told like given imported settled) (form.Call kind) parts in
      ap₂ (λ t ps. of_told t (form.Call kind) ps) e p
      ∙ ap₂ (λ b c. build b given imported c (parts_of which table ts)) l s
      ∙ ap₂ (λ x y. build (not (binds kind) && is_large y) x y (settle which table (argument_contexts which table kind ts) ts) (parts_of which table ts)) given_is imported_is

  -- ---- arguments, one by one

  shapes-append : (xs : List Node) (x : Node) → shapes table (forest (map tree_of (xs ++ x ∷ []))) ≡ shapes table (forest (map tree_of xs)) ++ shape table (tree_of x) ∷ []
  shapes-append [] x = refl
  shapes-append (y ∷ xs) x = ap (λ rest. shape table (tree_of y) ∷ rest) (shapes-append xs x)

  shows-append : (xs : List Node) (x : Node) → shown_all (forest (map tree_of (xs ++ x ∷ []))) ≡ shown_all (forest (map tree_of xs)) ++ shown (tree_of x) ∷ []
  shows-append [] x = refl
  shows-append (y ∷ xs) x = ap (λ rest. shown (tree_of y) ∷ rest) (shows-append xs x)

  marks-append : (xs : List Node) (x : Node) → all_marks which table (forest (map tree_of (xs ++ x ∷ []))) (forest (map tree_of (xs ++ x ∷ [])))
      ≡ all_marks which table (forest (map tree_of xs)) (forest (map tree_of xs)) ++ marks which table (tree_of x) (tree_of x) ∷ []
  marks-append [] x = refl
  marks-append (y ∷ xs) x = ap (λ rest. marks which table (tree_of y) (tree_of y) ∷ rest) (marks-append xs x)

  settle-append : (contexts : ℕ → Bool) (xs : List Node) (x : Node)
      → settle which table contexts (forest (map tree_of (xs ++ x ∷ []))) ≡ (settle which table contexts (forest (map tree_of xs)) && settles which table (contexts (length xs)) (tree_of x))
  settle-append contexts [] x = and_true (settles which table (contexts 0) (tree_of x))
  settle-append contexts (y ∷ xs) x =
      ap (λ b. settles which table (contexts 0) (tree_of y) && b) (settle-append (λ i. contexts (suc i)) xs x)
      ∙ and_assoc (settles which table (contexts 0) (tree_of y)) _ _
    where
      and_assoc : (a b c : Bool) → (a && (b && c)) ≡ ((a && b) && c)
      and_assoc true b c = refl
      and_assoc false b c = refl

  pub parts-on : (args : List Node) (i : ℕ) (arg : Node) (old new : Parts) (found : Made) → Some arg ≡ slice_get args i → old ≡ parts_of which table (forest (map tree_of (take i args)))
      → found ≡ made_of which table (tree_of arg)
      → new ≡ record { shapes = old.shapes ++ found.told.given ∷ []; shows = old.shows ++ shown_by found.told ∷ []; marks = old.marks ++ mark_by found ∷ [] }
      → new ≡ parts_of which table (forest (map tree_of (take (i + 1) args)))
  parts-on args i arg old new found h before is e =
      let xs = take i args in
      let t = tree_of arg in
      e ∙ ap₂ (λ ps m. of_lists (ps.shapes ++ m.told.given ∷ []) (ps.shows ++ shown_by m.told ∷ []) (ps.marks ++ mark_by m ∷ [])) before is
      ∙ ap₂ (λ s m. of_lists (shapes table (forest (map tree_of xs)) ++ s ∷ []) (shown_all (forest (map tree_of xs)) ++ shown_by (made_of which table t).told ∷ [])
      (all_marks which table (forest (map tree_of xs)) (forest (map tree_of xs)) ++ m ∷ [])) (given-made t) (mark-made t)
      ∙ ap (λ s. of_lists (shapes table (forest (map tree_of xs)) ++ shape table t ∷ []) (shown_all (forest (map tree_of xs)) ++ s ∷ [])
      (all_marks which table (forest (map tree_of xs)) (forest (map tree_of xs)) ++ marks which table t t ∷ [])) (shown-made t)
      ∙ ap₂ (λ ss hs. of_lists ss hs (all_marks which table (forest (map tree_of xs)) (forest (map tree_of xs)) ++ marks which table t t ∷ [])) (sym (shapes-append xs arg)) (sym (shows-append xs arg))
      ∙ ap (λ ms. of_lists (shapes table (forest (map tree_of (xs ++ arg ∷ [])))) (shown_all (forest (map tree_of (xs ++ arg ∷ [])))) ms) (sym (marks-append xs arg))
      ∙ ap (λ ys. parts_of which table (forest (map tree_of ys))) (sym (take-on args i arg h))

  pub settle-on : (contexts : ℕ → Bool) (args : List Node) (i : ℕ) (arg : Node) (old found new : Bool) → Some arg ≡ slice_get args i
      → old ≡ settle which table contexts (forest (map tree_of (take i args))) → found ≡ settles which table (contexts i) (tree_of arg) → new ≡ (old && found)
      → new ≡ settle which table contexts (forest (map tree_of (take (i + 1) args)))
  settle-on contexts args i arg old found new h before is e =
      e ∙ ap₂ (λ a b. a && b) before (is ∙ ap (λ k. settles which table (contexts k) (tree_of arg)) (sym (take-length args i arg h)))
      ∙ sym (settle-append contexts (take i args) arg) ∙ ap (λ ys. settle which table contexts (forest (map tree_of ys))) (sym (take-on args i arg h))
    where
      take-length : {A : Type 0} (xs : List A) (i : ℕ) (x : A) → Some x ≡ slice_get xs i → length (take i xs) ≡ i
      take-length [] i x h = cc
      take-length (y ∷ xs) zero x h = refl
      take-length (y ∷ xs) (suc i) x h = ap suc (take-length xs i x h)

  -- ---- an argument in its context

  pub imported-told : (add : Bool) (t : Tree) → (if add then (made_of which table t).told.wanted else (made_of which table t).told.unwanted) ≡ after which table add t
  imported-told true (tree run label ts) = refl
  imported-told false (tree run label ts) = refl

  pub settled-told : (add : Bool) (t : Tree) → settles_by (made_of which table t).told add ≡ settles which table add t
  settled-told add (tree run label ts) = settles-told add (tree run label ts)

  pub argument-given : (t : Tree) → (made_of which table t).told.given ≡ shape table t
  argument-given (tree run label ts) = refl

pub ruleset classes = (made-leaf, made-closed, made-unary, made-spill, made-between, made-under, calls-under)

pub ruleset argument = (imported-told, settled-told, argument-given)

pub ruleset marked = (mark-of)
