-- The imported formula by what was decided, for each class of nodes.
--   stands-left, stands-right  parts of what stands in a list
--   decisions of each class, in `builds`
--   bares    whether the import of a formula stands under an `@`, by its class
--   counts   how many decisions are of a formula
--   argument-splits   what is decided of a call's arguments, split at one
use Rattle.std.proofs.Common.{◌≡◌, ℕ, zero, suc, ◌+◌, ◌<◌, ◌≤◌, ◌^◌, arith, Bool, true, false, not, ◌&&◌, if◌then◌else◌, List, [], ◌∷◌, ◌++◌, Some, drop, take, get_or, length, length-append, map, slice_get, refl, sym, ap, ap₂, ◌∙◌, subst, append_assoc, append-nil}
use Rattle.call_core.specs.declared.function.Function.{Function}
use Rattle.kind_table.specs.Table.{Table}
use Rattle.value_core.specs.declared.operator.Operator.{Operator}
use Rattle.value_core.specs.declared.operator.OpUnary.{OpUnary}
use Rattle.tree_core.specs.Formula.{tree_of, one, between, bare_leaf}
use Rattle.tree_core.specs.Label.{Leaf, Closed, Label, leaf, passing, binary, unary, spill, closed, call}
use Rattle.tree_core.specs.Tree.{Run, Tree, tree, Trees, none, more, forest, run_of, under}
use Rattle.tree_core.specs.declared.node.Node.{Node}
use Rattle.tree_core.proofs.Parts.{drop-on, read-at}
use Rattle.shape_core.specs.Shape.{shapes}
use Rattle.import_core.specs.declared.rule.ImportRule.{ImportRule}
use Rattle.import_core.specs.After.{is_range_like_leaf, is_range_operator, wants_one}
use Rattle.import_core.specs.Arguments.{each}
use Rattle.import_core.specs.Decisions.{StandsAt, all_decisions, all_decision_counts, argument_decisions, argument_decision_count, decisions, decision_count}
use Rattle.import_core.specs.ImportOf.{import_of, is_bare}
use Rattle.import_core.specs.Imported.{merged_run}
use Rattle.import_core.specs.ImportRule.{import_rule}
use Rattle.import_core.proofs.Arguments.{each-imports}
use Rattle.import_core.proofs.Classes.{import-call}

-- ---- what stands in a list from a place on

next_of : {A : Type 0} (all : List A) (at : ℕ) (s : A) (tail : List A) → drop at all ≡ s ∷ tail → drop (suc at) all ≡ tail
next_of [] zero s tail e = absurd (cc)
next_of [] (suc at) s tail e = absurd (cc)
next_of (x ∷ all) zero s tail e = ap (drop 1) e
next_of (x ∷ all) (suc at) s tail e = next_of all at s tail e

within_of : {A : Type 0} (all : List A) (at : ℕ) (s : A) (tail : List A) → drop at all ≡ s ∷ tail → at < length all
within_of [] zero s tail e = absurd (cc)
within_of [] (suc at) s tail e = absurd (cc)
within_of (x ∷ all) zero s tail e = omega arith
within_of (x ∷ all) (suc at) s tail e = omega (arith, within_of all at s tail e)

first_of : {A : Type 0} (all : List A) (at : ℕ) (s d : A) (tail : List A) → drop at all ≡ s ∷ tail → get_or all at d ≡ s
first_of [] zero s d tail e = absurd (cc)
first_of [] (suc at) s d tail e = absurd (cc)
first_of (x ∷ all) zero s d tail e = ap (λ xs. get_or xs 0 d) e
first_of (x ∷ all) (suc at) s d tail e = first_of all at s d tail e

behind_of : {A : Type 0} (all : List A) (at : ℕ) (xs tail : List A) → drop at all ≡ xs ++ tail → drop (at + length xs) all ≡ tail
behind_of all at [] tail e = let same : at + 0 ≡ at = omega arith in ap (λ k. drop k all) same ∙ e
behind_of all at (x ∷ xs) tail e =
    let same : at + suc (length xs) ≡ suc at + length xs = omega arith in
    ap (λ k. drop k all) same ∙ behind_of all (suc at) xs tail (next_of all at x (xs ++ tail) e)

long_of : {A : Type 0} (all : List A) (at : ℕ) (xs tail : List A) → at ≤ length all → drop at all ≡ xs ++ tail → at + length xs ≤ length all
long_of all at [] tail start e = omega arith
long_of all at (x ∷ xs) tail start e =
    let within = within_of all at x (xs ++ tail) e in
    let rest = long_of all (suc at) xs tail within (next_of all at x (xs ++ tail) e) in
    omega (arith, rest)

module _ (all : List Bool) (at : ℕ) where
  pub stands-is : (xs ys : List Bool) → xs ≡ ys → StandsAt all at xs → StandsAt all at ys
  stands-is xs ys e it = (it.0, it.1 ∙ ap (λ zs. zs ++ it.0) e)

  pub stands-within : (x : Bool) (xs : List Bool) → StandsAt all at (x ∷ xs) → at < length all
  stands-within x xs it = within_of all at x (xs ++ it.0) it.1

  pub stands-first : (x d : Bool) (xs : List Bool) → StandsAt all at (x ∷ xs) → get_or all at d ≡ x
  stands-first x d xs it = first_of all at x d (xs ++ it.0) it.1

  pub stands-rest : (x : Bool) (xs : List Bool) → StandsAt all at (x ∷ xs) → StandsAt all (at + 1) xs
  stands-rest x xs it = let same : at + 1 ≡ suc at = omega arith in (it.0, ap (λ k. drop k all) same ∙ next_of all at x (xs ++ it.0) it.1)

  pub stands-left : (xs ys : List Bool) → StandsAt all at (xs ++ ys) → StandsAt all at xs
  stands-left xs ys it = (ys ++ it.0, it.1 ∙ append_assoc xs ys it.0)

  pub stands-right : (xs ys : List Bool) → StandsAt all at (xs ++ ys) → StandsAt all (at + length xs) ys
  stands-right xs ys it = (it.0, behind_of all at xs (ys ++ it.0) (it.1 ∙ append_assoc xs ys it.0))

  pub stands-long : (xs : List Bool) → at ≤ length all → StandsAt all at xs → at + length xs ≤ length all
  stands-long xs start it = long_of all at xs it.0 start it.1

pub starts : (all old part : List Bool) → all ≡ old ++ part → old ≡ [] → StandsAt all 0 part
starts all old part e f = ([], e ∙ ap (λ xs. xs ++ part) f ∙ sym (append-nil part))

-- ---- the decisions of each class

module _ (which : ImportRule) (table : Table) where
  pub decisions-leaf : (l : Leaf) → decisions which table (bare_leaf l) ≡ []
  decisions-leaf l = refl

  pub decisions-closed : (c : Closed) (ts : Trees) → decisions which table (tree [] (closed c) ts) ≡ []
  decisions-closed c ts = refl

  pub decisions-unary : (kind : OpUnary) (t : Tree) → decisions which table (tree [] (passing (unary kind)) (one t)) ≡ decisions which table t
  decisions-unary kind t = append-nil (decisions which table t)

  pub decisions-between : (operator : Operator) (t u : Tree) → decisions which table (between operator t u) ≡ decisions which table t ++ decisions which table u
  decisions-between operator t u = ap (λ rest. decisions which table t ++ rest) (append-nil (decisions which table u))

  pub decisions-spill : (t : Tree) → decisions which table (tree [] spill (one t)) ≡ decisions which table t
  decisions-spill t = append-nil (decisions which table t)

  pub decisions-call : (kind : Function) (ts : Trees) → decisions which table (tree [] (call kind) ts)
      ≡ (import_rule which table).range_like (call kind) ts ∷ argument_decisions which table (wants_one which table kind (shapes table ts)) ts
  decisions-call kind ts = refl

  pub decisions-under : (automatic : Bool) (t : Tree) → decisions which table (under automatic t) ≡ decisions which table t
  decisions-under automatic (tree run (leaf l) ts) = refl
  decisions-under automatic (tree run (passing p) ts) = refl
  decisions-under automatic (tree run spill ts) = refl
  decisions-under automatic (tree run (closed c) ts) = refl
  decisions-under automatic (tree run (call kind) ts) = refl

  -- ---- whether the imported formula stands under an `@`

  put_or : (b : Bool) → is_bare (if b then true ∷ [] else []) ≡ not b
  put_or true = refl
  put_or false = refl

  merged-bare : (flag : Bool) (run : Run) → is_bare (merged_run (flag ∷ run)) ≡ false
  merged-bare flag [] = refl
  merged-bare flag (next ∷ run) = merged-bare next run

  run_or : (b flag : Bool) (run : Run) → is_bare (if b then true ∷ [] else merged_run (flag ∷ run)) ≡ false
  run_or true flag run = refl
  run_or false flag run = merged-bare flag run

  pub gives-leaf : (add : Bool) (l : Leaf) → (add && is_range_like_leaf l) ≡ not (is_bare (run_of (import_of (import_rule which table) add (bare_leaf l))))
  gives-leaf add l = elim (add && is_range_like_leaf l) as (λ b. b ≡ not (is_bare (if b then true ∷ [] else []))) [ true ↦ refl | false ↦ refl ]

  pub gives-closed : (add : Bool) (c : Closed) (ts : Trees) → (add && is_range_operator c) ≡ not (is_bare (run_of (import_of (import_rule which table) add (tree [] (closed c) ts))))
  gives-closed add c ts = elim (add && is_range_operator c) as (λ b. b ≡ not (is_bare (if b then true ∷ [] else []))) [ true ↦ refl | false ↦ refl ]

  pub gives-call : (add : Bool) (kind : Function) (ts : Trees) → (add && (import_rule which table).range_like (call kind) ts) ≡ not (is_bare (run_of (import_of (import_rule which table) add (tree [] (call kind) ts))))
  gives-call add kind ts = elim (add && (import_rule which table).range_like (call kind) ts) as (λ b. b ≡ not (is_bare (if b then true ∷ [] else []))) [ true ↦ refl | false ↦ refl ]

  none_put : (add : Bool) → false ≡ not (is_bare (if add && false then true ∷ [] else []))
  none_put true = refl
  none_put false = refl

  pub gives-unary : (add : Bool) (kind : OpUnary) (t : Tree) → false ≡ not (is_bare (run_of (import_of (import_rule which table) add (tree [] (passing (unary kind)) (one t)))))
  gives-unary add kind t = none_put add

  pub gives-between : (add : Bool) (operator : Operator) (t u : Tree) → false ≡ not (is_bare (run_of (import_of (import_rule which table) add (between operator t u))))
  gives-between add operator t u = none_put add

  pub gives-spill : (add : Bool) (t : Tree) → false ≡ not (is_bare (run_of (import_of (import_rule which table) add (tree [] spill (one t)))))
  gives-spill add t = none_put add

  pub gives-under : (add automatic : Bool) (t : Tree) → true ≡ not (is_bare (run_of (import_of (import_rule which table) add (under automatic t))))
  gives-under add automatic (tree run label ts) = ap not (sym (run_or (add && (import_rule which table).range_like label ts) automatic run))

  -- ---- arguments

  pub record Splits (contexts : ℕ → Bool) (args : List Node) (i : ℕ) (arg : Node) : Type 0 where
    pub behind : List Bool
    pub is : argument_decisions which table contexts (forest (map tree_of args))
        ≡ argument_decisions which table contexts (forest (map tree_of (take i args))) ++ ((contexts i ∷ decisions which table (tree_of arg)) ++ behind)

  pub splits : (contexts : ℕ → Bool) (args : List Node) (i : ℕ) (arg : Node) → Some arg ≡ slice_get args i → Splits contexts args i arg
  splits contexts [] i arg h = cc
  splits contexts (first ∷ args) zero arg h =
      let e : arg ≡ first = cc in
      record { behind = argument_decisions which table (λ k. contexts (suc k)) (forest (map tree_of args)); is = ap (λ a. contexts 0 ∷ (decisions which table (tree_of a) ++ argument_decisions which table (λ k. contexts (suc k)) (forest (map tree_of args)))) (sym e) }
  splits contexts (first ∷ args) (suc i) arg h =
      let rest = splits (λ k. contexts (suc k)) args i arg h in
      record {
        behind = rest.behind;
        is = ap (λ xs. contexts 0 ∷ (decisions which table (tree_of first) ++ xs)) rest.is
            ∙ ap (λ xs. contexts 0 ∷ xs) (sym (append_assoc (decisions which table (tree_of first)) (argument_decisions which table (λ k. contexts (suc k)) (forest (map tree_of (take i args)))) _));
      }

  -- what is decided of one argument more
  pub arguments-on : (contexts : ℕ → Bool) (args : List Node) (i : ℕ) (arg : Node) → Some arg ≡ slice_get args i
      → argument_decisions which table contexts (forest (map tree_of (take (suc i) args)))
      ≡ argument_decisions which table contexts (forest (map tree_of (take i args))) ++ (contexts i ∷ decisions which table (tree_of arg))
  arguments-on contexts [] i arg h = cc
  arguments-on contexts (first ∷ args) zero arg h = let e : arg ≡ first = cc in ap (λ xs. contexts 0 ∷ xs) (append-nil (decisions which table (tree_of first)) ∙ ap (λ a. decisions which table (tree_of a)) (sym e))
  arguments-on contexts (first ∷ args) (suc i) arg h =
      ap (λ xs. contexts 0 ∷ (decisions which table (tree_of first) ++ xs)) (arguments-on (λ k. contexts (suc k)) args i arg h)
      ∙ ap (λ xs. contexts 0 ∷ xs) (sym (append_assoc (decisions which table (tree_of first)) _ _))

  pub arguments-next : (contexts : ℕ → Bool) (args : List Node) (i : ℕ) (arg : Node) → Some arg ≡ slice_get args i → (initial old new : List Bool) (one : Bool)
      → new ≡ old ++ one ∷ decisions which table (tree_of arg) → old ≡ initial ++ argument_decisions which table contexts (forest (map tree_of (take i args))) → one ≡ contexts i
      → new ≡ initial ++ argument_decisions which table contexts (forest (map tree_of (take (i + 1) args)))
  arguments-next contexts args i arg h initial old new one e f g =
      let here = contexts i ∷ decisions which table (tree_of arg) in
      e ∙ ap₂ (λ xs b. xs ++ b ∷ decisions which table (tree_of arg)) f g
      ∙ append_assoc initial (argument_decisions which table contexts (forest (map tree_of (take i args)))) here
      ∙ ap (λ xs. initial ++ xs) (sym (arguments-on contexts args i arg h))
      ∙ ap (λ k. initial ++ argument_decisions which table contexts (forest (map tree_of (take k args)))) (let one_more : suc i ≡ i + 1 = omega arith in one_more)

  -- ---- how many there are

  mutual
    pub decisions-length : (t : Tree) → length (decisions which table t) ≡ decision_count t
    decisions-length (tree run (leaf l) ts) = refl
    decisions-length (tree run (passing p) ts) = all_decisions-length ts
    decisions-length (tree run spill ts) = all_decisions-length ts
    decisions-length (tree run (closed c) ts) = refl
    decisions-length (tree run (call kind) ts) = let below = argument_decisions-length (wants_one which table kind (shapes table ts)) ts in omega (arith, below)

    all_decisions-length : (ts : Trees) → length (all_decisions which table ts) ≡ all_decision_counts ts
    all_decisions-length none = refl
    all_decisions-length (more t ts) = length-append (decisions which table t) (all_decisions which table ts) ∙ ap₂ (λ m n. m + n) (decisions-length t) (all_decisions-length ts)

    argument_decisions-length : (contexts : ℕ → Bool) (ts : Trees) → length (argument_decisions which table contexts ts) ≡ argument_decision_count ts
    argument_decisions-length contexts none = refl
    argument_decisions-length contexts (more t ts) =
        let here = decisions-length t in
        let there = argument_decisions-length (λ i. contexts (suc i)) ts in
        let both = length-append (decisions which table t) (argument_decisions which table (λ i. contexts (suc i)) ts) in
        omega (arith, here, there, both)

-- ---- what stands where the build has come to

module _ (which : ImportRule) (table : Table) (all : List Bool) (at : ℕ) where
  pub stands-between : (operator : Operator) (t u whole : Tree) (next : ℕ) → whole ≡ between operator t u → StandsAt all at (decisions which table whole) → next ≡ at + length (decisions which table t)
      → StandsAt all next (decisions which table u)
  stands-between operator t u whole next e it f =
      let both = stands-is all at (decisions which table whole) (decisions which table t ++ decisions which table u) (ap (decisions which table) e ∙ decisions-between which table operator t u) it in
      subst (λ n. StandsAt all n (decisions which table u)) (sym f) (stands-right all at (decisions which table t) (decisions which table u) both)

  pub kept-count : (automatic : Bool) (t whole : Tree) → whole ≡ under automatic t → length (decisions which table whole) ≡ decision_count t
  kept-count automatic t whole e = ap (λ u. length (decisions which table u)) e ∙ ap length (decisions-under which table automatic t) ∙ decisions-length which table t

  pub kept-within : (automatic : Bool) (t whole : Tree) → whole ≡ under automatic t → at ≤ length all → StandsAt all at (decisions which table whole) → at + decision_count t ≤ length all
  kept-within automatic t whole e start it = subst (λ n. at + n ≤ length all) (kept-count automatic t whole e) (stands-long all at (decisions which table whole) start it)

  -- an argument of a call, from the number on to which the ones before it led
  module _ (contexts : ℕ → Bool) (args : List Node) (i : ℕ) (arg : Node) (next : ℕ) (h : Some arg ≡ slice_get args i)
      (it : StandsAt all at (argument_decisions which table contexts (forest (map tree_of args))))
      (f : next ≡ at + length (argument_decisions which table contexts (forest (map tree_of (take i args))))) where
    pub stands-argument : StandsAt all next (contexts i ∷ decisions which table (tree_of arg))
    stands-argument =
        let before = argument_decisions which table contexts (forest (map tree_of (take i args))) in
        let here = contexts i ∷ decisions which table (tree_of arg) in
        let split = splits which table contexts args i arg h in
        let from = stands-right all at before (here ++ split.behind) (stands-is all at (argument_decisions which table contexts (forest (map tree_of args))) (before ++ (here ++ split.behind)) split.is it) in
        subst (λ n. StandsAt all n here) (sym f) (stands-left all (at + length before) here split.behind from)

    pub argument-behind : (behind : ℕ) → behind ≡ next + 1 + length (decisions which table (tree_of arg)) → behind ≡ at + length (argument_decisions which table contexts (forest (map tree_of (take (i + 1) args))))
    argument-behind behind e =
        let before = argument_decisions which table contexts (forest (map tree_of (take i args))) in
        let one_more : i + 1 ≡ suc i = omega arith in
        let long : length (argument_decisions which table contexts (forest (map tree_of (take (i + 1) args)))) ≡ length before + suc (length (decisions which table (tree_of arg))) =
        ap (λ k. length (argument_decisions which table contexts (forest (map tree_of (take k args))))) one_more
        ∙ ap length (arguments-on which table contexts args i arg h) ∙ length-append before (contexts i ∷ decisions which table (tree_of arg)) in
        omega (arith, e, f, long)

pub call-built : (which : ImportRule) (table : Table) (add : Bool) (kind : Function) (args nodes : List Node) (like : Bool) (found : Tree) → like ≡ (import_rule which table).range_like (call kind) (forest (map tree_of args))
    → map tree_of nodes ≡ each (λ i arg. import_of (import_rule which table) (wants_one which table kind (shapes table (forest (map tree_of args))) i) (tree_of arg)) args
    → found ≡ tree (if add && like then true ∷ [] else []) (call kind) (forest (map tree_of nodes))
    → found ≡ import_of (import_rule which table) add (tree [] (call kind) (forest (map tree_of args)))
call-built which table add kind args nodes like found e f g =
    g ∙ ap₂ (λ b us. tree (if add && b then true ∷ [] else []) (call kind) us) e
    (ap forest f ∙ each-imports (import_rule which table) (wants_one which table kind (shapes table (forest (map tree_of args)))) args)
    ∙ sym (import-call which table add kind (forest (map tree_of args)))

-- ---- how many there are, by class

pub count-unary : (kind : OpUnary) (t : Tree) → decision_count (tree [] (passing (unary kind)) (one t)) ≡ decision_count t
count-unary kind t = omega arith

pub count-between : (operator : Operator) (t u : Tree) → decision_count (between operator t u) ≡ decision_count t + decision_count u
count-between operator t u = omega arith

pub count-spill : (t : Tree) → decision_count (tree [] spill (one t)) ≡ decision_count t
count-spill t = omega arith

pub count-under : (automatic : Bool) (t : Tree) → decision_count (under automatic t) ≡ decision_count t
count-under automatic (tree run (leaf l) ts) = refl
count-under automatic (tree run (passing p) ts) = refl
count-under automatic (tree run spill ts) = refl
count-under automatic (tree run (closed c) ts) = refl
count-under automatic (tree run (call kind) ts) = refl

pub count-on : (args : List Node) (i : ℕ) (arg : Node) → i < length args → arg ≡ get_or args i arg
    → argument_decision_count (forest (map tree_of (drop i args))) ≡ decision_count (tree_of arg) + 1 + argument_decision_count (forest (map tree_of (drop (i + 1) args)))
count-on args i arg within is = ap (λ items. argument_decision_count (forest (map tree_of items))) (drop-on args i arg (read-at args i arg within is))

pub ruleset counts = (count-unary, count-between, count-spill, count-under, count-on)

pub ruleset bares = (gives-leaf, gives-closed, gives-call, gives-unary, gives-between, gives-spill, gives-under)

pub ruleset builds = (decisions-leaf, decisions-closed, decisions-unary, decisions-between, decisions-spill, decisions-call, decisions-under)
