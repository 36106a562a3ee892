-- Plain nests by their parts.
--   nest-under, literal-under, bare-under   nothing under an `@` is one
--   count-forest   how many arguments there are
--   fit-good, fit-bad, fit-end   arguments one after another
use Rattle.std.proofs.Common.{◌≡◌, ℕ, zero, suc, ◌+◌, ◌-◌, ◌<◌, ◌≤◌, Bool, true, false, ◌&&◌, nat_lt, List, [], ◌∷◌, drop, map, get_or, length, refl, sym, ap, ◌∙◌, arith}
use Rattle.std.proofs.lemmas.Bool.{lt-ltb}
use Rattle.tree_core.specs.Formula.{tree_of}
use Rattle.tree_core.specs.Tree.{Tree, tree, forest, under}
use Rattle.tree_core.specs.declared.node.Node.{Node}
use Rattle.tree_core.proofs.Views.{part-falls}
use Rattle.nest_core.specs.Plain.{are_arguments, count_of, is_argument, is_bare_literal, is_literal, is_plain_nest}

pub nest-under : (automatic : Bool) (t : Tree) → is_plain_nest (under automatic t) ≡ false
nest-under automatic (tree run label ts) = refl

pub literal-under : (automatic : Bool) (t : Tree) → is_literal (under automatic t) ≡ false
literal-under automatic (tree run label ts) = refl

pub bare-under : (automatic : Bool) (t : Tree) → is_bare_literal (under automatic t) ≡ false
bare-under automatic (tree run label ts) = refl

pub count-forest : (nodes : List Node) → count_of (forest (map tree_of nodes)) ≡ length nodes
count-forest [] = refl
count-forest (node ∷ nodes) = ap suc (count-forest nodes)

abbrev fit : List Node → ℕ → Bool
fit nodes arrays = are_arguments (forest (map tree_of nodes)) arrays

-- the arguments from one on: it, and those behind it
fit-first : (node : Node) (nodes : List Node) (arrays fewer : ℕ) → fewer ≡ arrays - 1 → fit (node ∷ nodes) arrays ≡ (is_argument (nat_lt 0 arrays) (tree_of node) && fit nodes fewer)
fit-first node nodes zero fewer e = let none : fewer ≡ 0 = omega (arith, e) in sym (ap (λ k. is_argument false (tree_of node) && fit nodes k) none)
fit-first node nodes (suc arrays) fewer e = let less : fewer ≡ arrays = omega (arith, e) in
    sym (ap (λ k. is_argument (nat_lt 0 (suc arrays)) (tree_of node) && fit nodes k) less ∙ ap (λ b. is_argument b (tree_of node) && fit nodes arrays) (lt-ltb 0 (suc arrays) (omega arith)))

fit-next : (nodes : List Node) (i : ℕ) (node : Node) (arrays : ℕ) → i < length nodes → node ≡ get_or nodes i node →
    fit (drop i nodes) arrays ≡ (is_argument (nat_lt 0 arrays) (tree_of node) && fit (drop (i + 1) nodes) (arrays - 1))
fit-next [] i node arrays l h = absurd (omega arith)
fit-next (first ∷ nodes) zero node arrays l h =
    fit-first first nodes arrays (arrays - 1) refl ∙ ap (λ n. is_argument (nat_lt 0 arrays) (tree_of n) && fit nodes (arrays - 1)) (sym h)
fit-next (first ∷ nodes) (suc i) node arrays l h =
    let one_more : suc i + 1 ≡ suc (i + 1) = omega arith in
    fit-next nodes i node arrays (omega arith) h ∙ ap (λ k. is_argument (nat_lt 0 arrays) (tree_of node) && fit (drop k (first ∷ nodes)) (arrays - 1)) (sym one_more)

still-array : (i arrays : ℕ) → nat_lt 0 (arrays - i) ≡ nat_lt i arrays
still-array i arrays = grind arith

fit-on : (nodes : List Node) (i : ℕ) (node : Node) (arrays : ℕ) → i < length nodes → node ≡ get_or nodes i node →
    fit (drop i nodes) (arrays - i) ≡ (is_argument (nat_lt i arrays) (tree_of node) && fit (drop (i + 1) nodes) (arrays - (i + 1)))
fit-on nodes i node arrays l h =
    let fewer : arrays - i - 1 ≡ arrays - (i + 1) = omega arith in
    fit-next nodes i node (arrays - i) l h
    ∙ ap (λ b. is_argument b (tree_of node) && fit (drop (i + 1) nodes) (arrays - i - 1)) (still-array i arrays)
    ∙ ap (λ k. is_argument (nat_lt i arrays) (tree_of node) && fit (drop (i + 1) nodes) k) fewer

pub fit-good : (nodes : List Node) (i : ℕ) (node : Node) (arrays : ℕ) → i < length nodes → node ≡ get_or nodes i node → is_argument (nat_lt i arrays) (tree_of node) ≡ true →
    are_arguments (forest (map tree_of (drop (i + 1) nodes))) (arrays - (i + 1)) ≡ are_arguments (forest (map tree_of (drop i nodes))) (arrays - i)
fit-good nodes i node arrays l h good = sym (fit-on nodes i node arrays l h ∙ ap (λ b. b && fit (drop (i + 1) nodes) (arrays - (i + 1))) good)

pub fit-bad : (nodes : List Node) (i : ℕ) (node : Node) (arrays : ℕ) → i < length nodes → node ≡ get_or nodes i node → is_argument (nat_lt i arrays) (tree_of node) ≡ false →
    are_arguments (forest (map tree_of (drop i nodes))) (arrays - i) ≡ false
fit-bad nodes i node arrays l h bad = fit-on nodes i node arrays l h ∙ ap (λ b. b && fit (drop (i + 1) nodes) (arrays - (i + 1))) bad

pub fit-end : (nodes : List Node) (i arrays : ℕ) → length nodes ≤ i → are_arguments (forest (map tree_of (drop i nodes))) arrays ≡ true
fit-end [] zero arrays h = refl
fit-end [] (suc i) arrays h = refl
fit-end (node ∷ nodes) zero arrays h = absurd (omega arith)
fit-end (node ∷ nodes) (suc i) arrays h = fit-end nodes i arrays (omega arith)

pub ruleset plains = (nest-under, literal-under, bare-under, count-forest, fit-good, fit-bad, fit-end, part-falls)
