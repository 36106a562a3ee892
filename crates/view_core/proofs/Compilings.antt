-- Formulas by what their parts are compiled to.
--   source-under, ...   nothing under an `@` is a plain nest
--   compiled-range, compiled-array, compiled-error   a range or an array literal
--   compiled-call       a call, by what it answers over its arguments
--   array-there         what an argument is as an array, by what it was compiled to
--   compiled-refused, compiled-stopped, compiled-over   calls whose arguments are too few or too many, are errors, or are nests
--   grown, broken       arguments so far, and one more
--   called-plain        a call that is a plain nest
--   shows-told, shows-over, split-args                  the same of arguments that are cut into arrays and others
use Rattle.std.proofs.Common.{◌≡◌, ℕ, zero, suc, ◌+◌, ◌<◌, ◌≤◌, Bool, true, false, ◌&&◌, List, [], ◌∷◌, ◌++◌, drop, get_or, length, map, take, Option, Some, None, Result, Ok, Err, IsErrAnd, All, IsTrue, refl, sym, ap, ap₂, subst, ◌∙◌, arith}
use denote.Param.Weighed.{most}
use Rattle.std.specs.List.{list_all}
use Rattle.std.proofs.lemmas.Bool.{and_from, and_parts}
use Rattle.std.proofs.lemmas.List.Elements.{All-cons, All-nil}
use Rattle.call_core.specs.declared.function.Function.{Function}
use Rattle.call_core.specs.declared.function.Function.TheVariants as kind
use Rattle.value_core.specs.declared.array.ArrayNode.{ArrayNode}
use Rattle.value_core.specs.declared.array.ArrayNode.TheVariants as item
use Rattle.value_core.specs.declared.error.Error.{Error}
use Rattle.value_core.specs.declared.position.CellReferenceIndex.{CellReferenceIndex}
use Rattle.rectangle_core.specs.declared.value.Value.TheVariants.{Grid}
use Rattle.book_core.specs.Contents.{Contents, read}
use Rattle.grid_core.specs.declared.calc_result.CalcResult.{CalcResult}
use Rattle.grid_core.specs.declared.calc_result.CalcResult.TheVariants as calc
use Rattle.kind_table.specs.Table.{Table}
use Rattle.tree_core.specs.Formula.{tree_of}
use Rattle.tree_core.specs.Label.{leaf, call}
use Rattle.tree_core.specs.Tree.{Tree, tree, Trees, none, more, forest, under}
use Rattle.tree_core.specs.declared.node.Node.{Node, size-Node}
use Rattle.tree_core.proofs.Views.{deepest}
use Rattle.result_core.specs.Finding.{array_of, in_context, result_of, value_of, wrong}
use Rattle.result_core.specs.declared.found.Found.{Found}
use Rattle.result_core.specs.declared.found.Found.TheVariants.{Cell, Same}
use Rattle.argument_core.specs.Argument.{array_in}
use Rattle.argument_core.specs.Check.{GivesAs, after, each, put_before}
use Rattle.argument_core.specs.declared.stop.Stop.{Stop}
use Rattle.argument_core.specs.declared.stop.Stop.TheVariants.{Wrong, Memory}
use Rattle.argument_core.proofs.Each.{joined}
use Rattle.own_functions.specs.Own.{call_result, own_call, own_result}
use Rattle.nest_core.specs.Asked.{arguments_refused}
use Rattle.nest_core.specs.Built.{Shows, array_found}
use Rattle.nest_core.specs.Plain.{are_arguments, arrays_of, is_literal, is_nest_kind, is_plain_nest}
use Rattle.nest_core.specs.Rows.{rows_in}
use Rattle.nest_core.specs.declared.plain_nest.PlainNest.{PlainNest}
use Rattle.nest_core.proofs.Plains.{count-forest, nest-under}
use Rattle.eval_core.specs.Answer.{called}
use Rattle.eval_core.specs.Meaning.{call_found, found_all, found_of, value_in}
use Rattle.eval_core.specs.Setting.{Setting, setting}
use Rattle.eval_core.proofs.Founds.{found_all-forest}
use Rattle.view_core.specs.Compiled.{Compiled, Compiles, is_source, without_cells}
use Rattle.view_core.proofs.Constants.{are_literals, literals-same, source-same}
use Rattle.view_core.proofs.Looks.{as_array, looks, over, refused}

-- ---- ranges and array literals

module _ (cell : CellReferenceIndex) (t : Tree) (is : is_source t ≡ true) where
  pub compiled-range : (limit : ℕ) (left right : CellReferenceIndex) (nest : PlainNest) → without_cells cell t ≡ calc.Range left right →
      ((book : Contents) → rows_in book nest ≡ read book left right) → Compiles limit cell t (Ok nest)
  compiled-range limit left right nest e rows table book = let here = setting table book limit cell in
      ap (value_in here) (source-same t is here ∙ ap Same e) ∙ ap Grid (sym (rows book))

  pub compiled-array : (limit : ℕ) (grid : List (List ArrayNode)) (nest : PlainNest) → without_cells cell t ≡ calc.Array grid →
      ((book : Contents) → rows_in book nest ≡ grid) → Compiles limit cell t (Ok nest)
  compiled-array limit grid nest e rows table book = let here = setting table book limit cell in
      ap (value_in here) (source-same t is here ∙ ap Same e) ∙ ap Grid (sym (rows book))

  pub compiled-error : (limit : ℕ) (e : Error) (origin : CellReferenceIndex) → without_cells cell t ≡ calc.Error e origin → origin ≡ cell → Compiles limit cell t (Err (Wrong e))
  compiled-error limit e origin h from table book = let here = setting table book limit cell in
      source-same t is here ∙ ap Same (h ∙ ap (calc.Error e) from)

-- ---- calls

call-own : (here : Setting) (k : Function) (founds : List Found) → is_nest_kind k ≡ true → call_found here k founds ≡ Same (own_result here.book here.limit here.cell k founds)
call-own here (kind.Other id) founds h = cc
call-own here other founds h = refl

abbrev founds_of : Setting → List Node → List Found
founds_of here = map (λ arg. found_of here (tree_of arg))

pub found-call : (here : Setting) (k : Function) (args : List Node) → is_nest_kind k ≡ true → found_of here (tree [] (call k) (forest (map tree_of args))) ≡ Same (called here k args)
found-call here k args h =
    call-own here k (found_all here (forest (map tree_of args))) h
    ∙ ap (λ founds. Same (own_result here.book here.limit here.cell k founds)) (found_all-forest here args)

shows-compiled : (here : Setting) (found : Found) (wanted : CalcResult) (result : Result PlainNest Stop) → found ≡ Same wanted → Shows here.book here.cell result wanted → Compiled here result found
shows-compiled here found wanted (Ok nest) e s = ap (value_in here) (e ∙ ap Same s)
shows-compiled here found wanted (Err (Wrong fault)) e s = e ∙ ap Same s
shows-compiled here found wanted (Err Memory) e s = tt

pub compiled-call : (limit : ℕ) (cell : CellReferenceIndex) (k : Function) (args : List Node) (t : Tree) (result : Result PlainNest Stop) → t ≡ tree [] (call k) (forest (map tree_of args)) →
    is_nest_kind k ≡ true → ((table : Table) (book : Contents) → Shows book cell result (called (setting table book limit cell) k args)) → Compiles limit cell t result
compiled-call limit cell k args t result e h shows table book = let here = setting table book limit cell in
    shows-compiled here (found_of here t) (called here k args) result (ap (found_of here) e ∙ found-call here k args h) (shows table book)

-- ---- arguments as arrays

element-none : (here : Setting) (rows : List (List ArrayNode)) (e : ArrayNode) → value_of here.book (result_of here.cell e) ≡ Grid rows → ⊥
element-none here rows (item.Number n) h = cc
element-none here rows (item.Boolean b) h = cc
element-none here rows (item.String text) h = cc
element-none here rows (item.Error e) h = cc
element-none here rows item.Empty h = cc

result-there : (book : Contents) (rows : List (List ArrayNode)) (made : CalcResult) → value_of book made ≡ Grid rows → array_of book made ≡ Ok rows
result-there book rows (calc.Number n) h = cc
result-there book rows (calc.Boolean b) h = cc
result-there book rows (calc.String text) h = cc
result-there book rows (calc.Error e origin) h = cc
result-there book rows (calc.Range left right) h = cc
result-there book rows (calc.Array made) h = cc
result-there book rows calc.EmptyCell h = cc
result-there book rows calc.EmptyArg h = cc

pub array-there : (here : Setting) (rows : List (List ArrayNode)) (found : Found) → value_in here found ≡ Grid rows → array_in here.book here.cell found ≡ Ok rows
array-there here rows (Cell at) h = absurd (element-none here rows (here.book.value at) h)
array-there here rows (Same made) h = result-there here.book rows made h

-- ---- arguments one after another

told : {X : Type 0} (P : Result X Stop → Type 0) (made : Result X Stop) (stop : Stop) → IsErrAnd made (λ s. s ≡ stop) → P (Err stop) → P made
told P (Ok x) stop h k = absurd h
told P (Err s) stop h k = let F : Stop → Type 0 = λ z. P (Err z) in subst F (sym h) k

pub take-whole : (nodes : List Node) (i : ℕ) → length nodes ≤ i → take i nodes ≡ nodes
take-whole [] zero h = refl
take-whole [] (suc i) h = refl
take-whole (node ∷ nodes) zero h = absurd (omega arith)
take-whole (node ∷ nodes) (suc i) h = ap (λ ns. node ∷ ns) (take-whole nodes i (omega arith))

joined-nil : {Y : Type 0} (r : Result (List Y) Error) → r ≡ joined [] r
joined-nil (Ok ys) = refl
joined-nil (Err e) = refl

put-after : {Y : Type 0} (a : Result Y Error) (b r : Result (List Y) Error) → put_before a (after b (λ zs. joined zs r)) ≡ after (put_before a b) (λ zs. joined zs r)
put-after (Ok y) (Ok ys) (Ok zs) = refl
put-after (Ok y) (Ok ys) (Err e) = refl
put-after (Ok y) (Err e) r = refl
put-after (Err e) b r = refl

each-join : {X Y : Type 0} (f : X → Result Y Error) (xs ys : List X) → each f (xs ++ ys) ≡ after (each f xs) (λ zs. joined zs (each f ys))
each-join f [] ys = joined-nil (each f ys)
each-join f (x ∷ xs) ys = ap (put_before (f x)) (each-join f xs ys) ∙ put-after (f x) (each f xs) (each f ys)

cut-at : (nodes : List Node) (i : ℕ) (node : Node) → i < length nodes → node ≡ get_or nodes i node → nodes ≡ take i nodes ++ node ∷ drop (i + 1) nodes
cut-at [] i node l h = absurd (omega arith)
cut-at (first ∷ nodes) zero node l h = ap (λ n. n ∷ nodes) (sym h)
cut-at (first ∷ nodes) (suc i) node l h =
    let one_more : suc i + 1 ≡ suc (i + 1) = omega arith in
    ap (λ ns. first ∷ ns) (cut-at nodes i node (omega arith) h) ∙ ap (λ k. first ∷ take i nodes ++ node ∷ drop k (first ∷ nodes)) (sym one_more)

take-more : (nodes : List Node) (i : ℕ) (node : Node) → i < length nodes → node ≡ get_or nodes i node → take (i + 1) nodes ≡ take i nodes ++ node ∷ []
take-more [] i node l h = absurd (omega arith)
take-more (first ∷ nodes) zero node l h = ap (λ n. n ∷ []) (sym h)
take-more (first ∷ nodes) (suc i) node l h =
    let one_more : suc i + 1 ≡ suc (i + 1) = omega arith in
    ap (λ k. take k (first ∷ nodes)) one_more ∙ ap (λ ns. first ∷ ns) (take-more nodes i node (omega arith) h)

-- ---- the arguments of a call

abbrev pub IsNest : Node → Type 0
IsNest node = IsTrue (is_plain_nest (tree_of node))

pub split-plain : (arrays others : List Node) → are_arguments (forest (map tree_of (arrays ++ others))) (length arrays) ≡ true → (All IsNest arrays) × (are_literals others ≡ true)
split-plain [] [] h = (All-nil IsNest, refl)
split-plain [] (node ∷ others) h = let p = and_parts _ _ h in let q = split-plain [] others p.1 in (All-nil IsNest, and_from _ _ p.0 q.1)
split-plain (node ∷ arrays) others h = let p = and_parts _ _ h in let q = split-plain arrays others p.1 in (All-cons IsNest node arrays p.0 q.0, q.1)

map-join : {X Y : Type 0} (f : X → Y) (xs ys : List X) → map f (xs ++ ys) ≡ map f xs ++ map f ys
map-join f [] ys = refl
map-join f (x ∷ xs) ys = ap (λ zs. f x ∷ zs) (map-join f xs ys)

map-length : {X Y : Type 0} (f : X → Y) (xs : List X) → length (map f xs) ≡ length xs
map-length f [] = refl
map-length f (x ∷ xs) = ap suc (map-length f xs)

module _ (here : Setting) (nodes : List Node) (i : ℕ) (node : Node) (l : i < length nodes) (at : node ≡ get_or nodes i node) (parts : List PlainNest)
    (so : each (array_in here.book here.cell) (founds_of here (take i nodes)) ≡ Ok (map (rows_in here.book) parts)) where
  abbrev looked-at : Found → Result (List (List ArrayNode)) Error
  looked-at = array_in here.book here.cell

  joined-so : (left : List Node) → each looked-at (founds_of here (take i nodes ++ left)) ≡ joined (map (rows_in here.book) parts) (each looked-at (founds_of here left))
  joined-so left =
      ap (each looked-at) (map-join (λ arg. found_of here (tree_of arg)) (take i nodes) left)
      ∙ each-join looked-at (founds_of here (take i nodes)) (founds_of here left)
      ∙ ap (λ r. after r (λ zs. joined zs (each looked-at (founds_of here left)))) so

  pub grown : (part : PlainNest) → Compiled here (Ok part) (found_of here (tree_of node)) →
      each looked-at (founds_of here (take (i + 1) nodes)) ≡ Ok (map (rows_in here.book) (parts ++ part ∷ []))
  grown part is =
      ap (λ ns. each looked-at (founds_of here ns)) (take-more nodes i node l at)
      ∙ joined-so (node ∷ [])
      ∙ ap (λ r. joined (map (rows_in here.book) parts) (put_before r (Ok []))) (array-there here (rows_in here.book part) (found_of here (tree_of node)) is)
      ∙ ap Ok (sym (map-join (rows_in here.book) parts (part ∷ [])))

  pub broken : {X : Type 0} (view : X → List (List (List ArrayNode))) (stop : Stop) → Compiled here (Err stop) (found_of here (tree_of node)) → GivesAs view (Err stop) (each looked-at (founds_of here nodes))
  broken view (Wrong e) is =
      ap (λ ns. each looked-at (founds_of here ns)) (cut-at nodes i node l at)
      ∙ joined-so (node ∷ drop (i + 1) nodes)
      ∙ ap (λ found. joined (map (rows_in here.book) parts) (put_before (looked-at found) (each looked-at (founds_of here (drop (i + 1) nodes))))) is
  broken view Memory is = tt

  pub broken-told : {X : Type 0} (view : X → List (List (List ArrayNode))) (made : Result X Stop) (stop : Stop) → IsErrAnd made (λ s. s ≡ stop) →
      Compiled here (Err stop) (found_of here (tree_of node)) → GivesAs view made (each looked-at (founds_of here nodes))
  broken-told view made stop h is = told (λ r. GivesAs view r (each looked-at (founds_of here nodes))) made stop h (broken view stop is)

pub called-plain : (t : Tree) (k : Function) (args : List Node) → t ≡ tree [] (call k) (forest (map tree_of args)) → is_plain_nest t ≡ true →
    (is_nest_kind k ≡ true) × (are_arguments (forest (map tree_of args)) (arrays_of k (length args)) ≡ true)
called-plain t k args e h =
    let p = and_parts _ _ (subst (λ u. is_plain_nest u ≡ true) e h) in
    (p.0, subst (λ n. are_arguments (forest (map tree_of args)) (arrays_of k n) ≡ true) (count-forest args) p.1)

as-arrays : (book : Contents) (parts : List PlainNest) → map as_array (map (rows_in book) parts) ≡ map (array_found book) parts
as-arrays book [] = refl
as-arrays book (part ∷ parts) = ap (λ founds. array_found book part ∷ founds) (as-arrays book parts)

module _ (here : Setting) (k : Function) where
  counts : (arrays others : List Node) → length (founds_of here arrays) + length (founds_of here others) ≡ length (arrays ++ others)
  counts [] others = let e = map-length (λ arg. found_of here (tree_of arg)) others in omega (arith, e)
  counts (node ∷ arrays) others = let e = counts arrays others in omega (arith, e)

  pub compiled-refused : (args : List Node) (e : Error) → is_nest_kind k ≡ true → arguments_refused k (length args) ≡ Some e → called here k args ≡ wrong here.cell e
  compiled-refused args e h r =
      ap (call_result here.cell) (refused here.book here.limit here.cell k (founds_of here args) e h
      (subst (λ n. arguments_refused k n ≡ Some e) (sym (map-length (λ arg. found_of here (tree_of arg)) args)) r))

  module _ (arrays others : List Node) (r : arguments_refused k (length (arrays ++ others)) ≡ None) (n : length arrays ≡ arrays_of k (length (arrays ++ others))) where
    abbrev rest : List (List (List ArrayNode)) → Result CalcResult Error
    rest = over here.book here.limit here.cell k (founds_of here others)

    looked : called here k (arrays ++ others) ≡ call_result here.cell (after (each (array_in here.book here.cell) (founds_of here arrays)) rest)
    looked =
        ap (own_result here.book here.limit here.cell k) (map-join (λ arg. found_of here (tree_of arg)) arrays others)
        ∙ ap (call_result here.cell) (looks here.book here.limit here.cell k (founds_of here arrays) (founds_of here others)
        (subst (λ c. arguments_refused k c ≡ None) (sym (counts arrays others)) r)
        (map-length (λ arg. found_of here (tree_of arg)) arrays ∙ n ∙ ap (arrays_of k) (sym (counts arrays others))))

    pub compiled-stopped : (e : Error) → each (array_in here.book here.cell) (founds_of here arrays) ≡ Err e → called here k (arrays ++ others) ≡ wrong here.cell e
    compiled-stopped e h = looked ∙ ap (λ s. call_result here.cell (after s rest)) h

    pub compiled-over : (parts : List PlainNest) → each (array_in here.book here.cell) (founds_of here arrays) ≡ Ok (map (rows_in here.book) parts) →
        called here k (arrays ++ others) ≡ own_result here.book here.limit here.cell k (map (array_found here.book) parts ++ founds_of here others)
    compiled-over parts h =
        looked ∙ ap (λ s. call_result here.cell (after s rest)) h
        ∙ ap (λ founds. own_result here.book here.limit here.cell k (founds ++ founds_of here others)) (as-arrays here.book parts)

-- ---- calls

module _ (limit : ℕ) (cell : CellReferenceIndex) (k : Function) (args arrays others : List Node) (cut : args ≡ arrays ++ others)
    (r : arguments_refused k (length args) ≡ None) (n : length arrays ≡ arrays_of k (length args)) where
  cut-refused : arguments_refused k (length (arrays ++ others)) ≡ None
  cut-refused = subst (λ nodes. arguments_refused k (length nodes) ≡ None) cut r

  cut-arrays : length arrays ≡ arrays_of k (length (arrays ++ others))
  cut-arrays = n ∙ ap (λ nodes. arrays_of k (length nodes)) cut

  module _ (table : Table) (book : Contents) where
    abbrev there : Setting
    there = setting table book limit cell

    abbrev Stopped : Stop → Type 0
    Stopped stop = GivesAs (λ (arrays : List (List (List ArrayNode))). arrays) (Err stop) (each (array_in book cell) (founds_of there arrays))

    shows-stopped : (stop : Stop) → Stopped stop → Shows book cell (Err stop) (called there k args)
    shows-stopped (Wrong e) h = ap (called there k) cut ∙ compiled-stopped there k arrays others cut-refused cut-arrays e h
    shows-stopped Memory h = tt

    pub shows-told : (made : Result PlainNest Stop) (stop : Stop) → IsErrAnd made (λ s. s ≡ stop) → Stopped stop → Shows book cell made (called there k args)
    shows-told made stop h is = told (λ r. Shows book cell r (called there k args)) made stop h (shows-stopped stop is)

    pub shows-over : (parts : List PlainNest) (items : List Found) (result : Result PlainNest Stop) → each (array_in book cell) (founds_of there arrays) ≡ Ok (map (rows_in book) parts) →
        are_literals others ≡ true → items ≡ map (λ node. Same (without_cells cell (tree_of node))) others →
        Shows book cell result (own_result book limit cell k (map (array_found book) parts ++ items)) → Shows book cell result (called there k args)
    shows-over parts items result h literals e shows =
        let same : items ≡ founds_of there others = e ∙ literals-same others literals there in
        let all : own_result book limit cell k (map (array_found book) parts ++ items) ≡ called there k args =
        ap (λ fs. own_result book limit cell k (map (array_found book) parts ++ fs)) same
        ∙ sym (compiled-over there k arrays others cut-refused cut-arrays parts h)
        ∙ ap (called there k) (sym cut) in
        subst (Shows book cell result) all shows

  pub split-args : are_arguments (forest (map tree_of args)) (arrays_of k (length args)) ≡ true → (All IsNest arrays) × (are_literals others ≡ true)
  split-args h = split-plain arrays others
      (subst (λ m. are_arguments (forest (map tree_of (arrays ++ others))) m ≡ true) (sym n)
      (subst (λ nodes. are_arguments (forest (map tree_of nodes)) (arrays_of k (length args)) ≡ true) cut h))

pub most-front : (arrays others : List Node) → most size-Node arrays ≤ most size-Node (arrays ++ others)
most-front [] others = omega arith
most-front (node ∷ arrays) others = let k = most-front arrays others in omega (arith, k)

pub ruleset compilings = (nest-under, compiled-call)
