-- What is counted in a formula, from what is counted in its parts.
use Rattle.std.proofs.Common.{◌≡◌, ℕ, zero, suc, ◌+◌, ◌<◌, ◌≤◌, List, [], ◌∷◌, Some, drop, map, length, slice_get, refl, sym, ap, ◌∙◌, arith}
use Rattle.tree_core.specs.Count.{size_of, size_of_all, calls_here, calls_of, calls_of_all, ats_of, ats_of_all, count_of, count_of_all, count_here}
use Rattle.tree_core.specs.Formula.{tree_of}
use Rattle.tree_core.specs.Label.{leaf, passing, spill, closed, call}
use Rattle.tree_core.specs.Tree.{Tree, tree, Trees, none, more, forest, under}
use Rattle.tree_core.specs.View.{Here, bare, at, over, tree_in, here_in, parts_in}
use Rattle.tree_core.proofs.Views.{Fits, fits, part-falls}
use Rattle.tree_core.specs.declared.count.Counted.{Counted}
use Rattle.tree_core.specs.declared.count.Counted.TheVariants.{Nodes, Calls, Ats}
use Rattle.tree_core.specs.declared.node.Node.{Node}
use Rattle.tree_core.specs.declared.view.View.{View}

one_here : (label : _) → calls_here label ≤ 1
one_here (leaf l) = omega arith
one_here (passing p) = omega arith
one_here spill = omega arith
one_here (closed c) = omega arith
one_here (call kind) = omega arith

mutual
  calls_within : (t : Tree) → calls_of t ≤ size_of t
  calls_within (tree run label ts) = let h = one_here label in let k = all_calls_within ts in omega (arith, h, k)

  all_calls_within : (ts : Trees) → calls_of_all ts ≤ size_of_all ts
  all_calls_within none = omega arith
  all_calls_within (more t ts) = let h = calls_within t in let k = all_calls_within ts in omega (arith, h, k)

mutual
  ats_within : (t : Tree) → ats_of t ≤ size_of t
  ats_within (tree run label ts) = let k = all_ats_within ts in omega (arith, k)

  all_ats_within : (ts : Trees) → ats_of_all ts ≤ size_of_all ts
  all_ats_within none = omega arith
  all_ats_within (more t ts) = let h = ats_within t in let k = all_ats_within ts in omega (arith, h, k)

pub count-within : (what : Counted) (t : Tree) → count_of what t ≤ size_of t
count-within Nodes t = omega arith
count-within Calls t = calls_within t
count-within Ats t = ats_within t

pub ruleset within = (count-within)

count-over : (what : Counted) (h : Here) (ts : Trees) → Fits h ts → count_of what (over h ts) ≡ count_here what h + count_of_all what ts
count-over Nodes (bare label) ts f = omega arith
count-over Calls (bare label) ts f = refl
count-over Ats (bare label) ts f = omega arith
count-over Nodes (at automatic) (more (tree run label us) none) f = omega arith
count-over Calls (at automatic) (more (tree run label us) none) f = omega arith
count-over Ats (at automatic) (more (tree run label us) none) f = omega arith
count-over what (at automatic) none f = absurd f
count-over what (at automatic) (more t (more u ts)) f = absurd f

pub count-view : (what : Counted) (v : View) → count_of what (tree_in v) ≡ count_here what (here_in v) + count_of_all what (forest (map tree_of (parts_in v)))
count-view what v = count-over what (here_in v) (forest (map tree_of (parts_in v))) (fits v)

count-more : (what : Counted) (t : Tree) (ts : Trees) → count_of_all what (more t ts) ≡ count_of what t + count_of_all what ts
count-more Nodes t ts = refl
count-more Calls t ts = refl
count-more Ats t ts = refl

pub count-on : (what : Counted) (parts : List Node) (i : ℕ) (part : Node) → Some part ≡ slice_get parts i
    → count_of_all what (forest (map tree_of (drop i parts))) ≡ count_of what (tree_of part) + count_of_all what (forest (map tree_of (drop (i + 1) parts)))
count-on what parts i part h = next parts i h ∙ ap (λ k. count_of what (tree_of part) + count_of_all what (forest (map tree_of (drop k parts)))) (let one_more : suc i ≡ i + 1 = omega arith in one_more)
  where
    next : (parts : List Node) (i : ℕ) → Some part ≡ slice_get parts i → count_of_all what (forest (map tree_of (drop i parts))) ≡ count_of what (tree_of part) + count_of_all what (forest (map tree_of (drop (suc i) parts)))
    next [] i h = cc
    next (first ∷ parts) zero h = let e : part ≡ first = cc in rw e (count-more what (tree_of first) (forest (map tree_of parts)))
    next (first ∷ parts) (suc i) h = next parts i h

pub ruleset counts = (count-view, count-on, part-falls)
