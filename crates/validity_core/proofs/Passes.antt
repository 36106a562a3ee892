-- Nodes that are passed one after another.
--   passed-view    a node that is good, and then its parts
--   passed-bad     a node that is bad
--   passed-on      a part and then the parts behind it
--   passed-wrong   a part with a bad node
--   passed-end     no part is left
--   room-on        the numbers behind are within the room
--   first-wrong, first-none   the number of the first bad one
use Rattle.std.proofs.Common.{◌≡◌, ℕ, zero, suc, ◌+◌, ◌≤◌, ◌<◌, Bool, true, false, List, [], ◌∷◌, ◌++◌, Option, Some, None, option_map, Result, Ok, Err, drop, map, length, slice_get, if◌then◌else◌, refl, sym, ap, ap₂, ◌∙◌, arith, append-nil}
use Rattle.std.specs.List.{position_from}
use Rattle.tree_core.specs.Count.{size_of, size_of_all}
use Rattle.tree_core.specs.Formula.{tree_of}
use Rattle.tree_core.specs.Preorder.{nodes, nodes_of_all}
use Rattle.tree_core.specs.Tree.{Tree, tree, Trees, none, more, forest}
use Rattle.tree_core.specs.View.{Here, bare, at, over, tree_in, here_in, parts_in}
use Rattle.tree_core.specs.declared.node.Node.{Node}
use Rattle.tree_core.specs.declared.view.View.{View}
use Rattle.tree_core.proofs.Preorders.{nodes_counted}
use Rattle.tree_core.proofs.Views.{Fits, fits, part-falls}
use Rattle.validity_core.specs.Place.{passed}

abbrev pub then_pass : (Tree → Bool) → Result ℕ ℕ → List Tree → Result ℕ ℕ
then_pass bad (Ok number) ts = passed bad number ts
then_pass bad (Err number) ts = Err number

append-by : (bad : Tree → Bool) (number : ℕ) (ts us : List Tree) (b : Bool)
    → passed bad (number + 1) (ts ++ us) ≡ then_pass bad (passed bad (number + 1) ts) us
    → (if b then Err number else passed bad (number + 1) (ts ++ us)) ≡ then_pass bad (if b then Err number else passed bad (number + 1) ts) us
append-by bad number ts us true e = refl
append-by bad number ts us false e = e

passed-append : (bad : Tree → Bool) (number : ℕ) (ts us : List Tree) → passed bad number (ts ++ us) ≡ then_pass bad (passed bad number ts) us
passed-append bad number [] us = refl
passed-append bad number (t ∷ ts) us = append-by bad number ts us (bad t) (passed-append bad (number + 1) ts us)

nodes-over : (h : Here) (ts : Trees) → Fits h ts → nodes (over h ts) ≡ over h ts ∷ nodes_of_all ts
nodes-over (bare label) ts f = refl
nodes-over (at automatic) (more (tree run label us) none) f = sym (ap (λ rest. over (at automatic) (more (tree run label us) none) ∷ rest) (append-nil (nodes (tree run label us))))
nodes-over (at automatic) none f = absurd f
nodes-over (at automatic) (more t (more u ts)) f = absurd f

nodes-view : (v : View) → nodes (tree_in v) ≡ tree_in v ∷ nodes_of_all (forest (map tree_of (parts_in v)))
nodes-view v = nodes-over (here_in v) (forest (map tree_of (parts_in v))) (fits v)

pub passed-view : (bad : Tree → Bool) (number : ℕ) (v : View) → bad (tree_in v) ≡ false
    → passed bad (number + 1) (nodes_of_all (forest (map tree_of (parts_in v)))) ≡ passed bad number (nodes (tree_in v))
passed-view bad number v e = sym (ap (passed bad number) (nodes-view v) ∙ ap (λ b. if b then Err number else passed bad (number + 1) (nodes_of_all (forest (map tree_of (parts_in v))))) e)

pub passed-bad : (bad : Tree → Bool) (number : ℕ) (v : View) → bad (tree_in v) ≡ true → Err number ≡ passed bad number (nodes (tree_in v))
passed-bad bad number v e = sym (ap (passed bad number) (nodes-view v) ∙ ap (λ b. if b then Err number else passed bad (number + 1) (nodes_of_all (forest (map tree_of (parts_in v))))) e)

parts-on : (parts : List Node) (i : ℕ) (part : Node) → Some part ≡ slice_get parts i
    → forest (map tree_of (drop i parts)) ≡ more (tree_of part) (forest (map tree_of (drop (i + 1) parts)))
parts-on parts i part h = next parts i h ∙ ap (λ k. more (tree_of part) (forest (map tree_of (drop k parts)))) (let one_more : suc i ≡ i + 1 = omega arith in one_more)
  where
    next : (parts : List Node) (i : ℕ) → Some part ≡ slice_get parts i → forest (map tree_of (drop i parts)) ≡ more (tree_of part) (forest (map tree_of (drop (suc i) parts)))
    next [] i h = cc
    next (first ∷ parts) zero h = let e : part ≡ first = cc in rw e refl
    next (first ∷ parts) (suc i) h = next parts i h

pub passed-on : (bad : Tree → Bool) (number next : ℕ) (parts : List Node) (i : ℕ) (part : Node) → Some part ≡ slice_get parts i
    → Ok next ≡ passed bad number (nodes (tree_of part))
    → passed bad next (nodes_of_all (forest (map tree_of (drop (i + 1) parts)))) ≡ passed bad number (nodes_of_all (forest (map tree_of (drop i parts))))
passed-on bad number next parts i part h e =
    ap (λ r. then_pass bad r (nodes_of_all (forest (map tree_of (drop (i + 1) parts))))) e
    ∙ sym (passed-append bad number (nodes (tree_of part)) (nodes_of_all (forest (map tree_of (drop (i + 1) parts)))))
    ∙ sym (ap (λ ts. passed bad number (nodes_of_all ts)) (parts-on parts i part h))

pub passed-wrong : (bad : Tree → Bool) (number wrong : ℕ) (parts : List Node) (i : ℕ) (part : Node) → Some part ≡ slice_get parts i
    → Err wrong ≡ passed bad number (nodes (tree_of part))
    → Err wrong ≡ passed bad number (nodes_of_all (forest (map tree_of (drop i parts))))
passed-wrong bad number wrong parts i part h e =
    ap (λ r. then_pass bad r (nodes_of_all (forest (map tree_of (drop (i + 1) parts))))) e
    ∙ sym (passed-append bad number (nodes (tree_of part)) (nodes_of_all (forest (map tree_of (drop (i + 1) parts)))))
    ∙ sym (ap (λ ts. passed bad number (nodes_of_all ts)) (parts-on parts i part h))

count-by : (bad : Tree → Bool) (number next : ℕ) (ts : List Tree) (b : Bool)
    → (Ok next ≡ passed bad (number + 1) ts → next ≡ number + 1 + length ts)
    → Ok next ≡ (if b then Err number else passed bad (number + 1) ts) → next ≡ number + suc (length ts)
count-by bad number next ts true k e = cc
count-by bad number next ts false k e = omega (arith, k e)

passed-count : (bad : Tree → Bool) (number next : ℕ) (ts : List Tree) → Ok next ≡ passed bad number ts → next ≡ number + length ts
passed-count bad number next [] e = let same : next ≡ number = cc in omega (arith, same)
passed-count bad number next (t ∷ ts) e = count-by bad number next ts (bad t) (passed-count bad (number + 1) next ts) e

pub passed-size : (bad : Tree → Bool) (number next : ℕ) (t : Tree) → Ok next ≡ passed bad number (nodes t) → next ≡ number + size_of t
passed-size bad number next t e = passed-count bad number next (nodes t) e ∙ ap (λ n. number + n) (nodes_counted t)

pub size-on : (parts : List Node) (i : ℕ) (part : Node) → Some part ≡ slice_get parts i
    → size_of_all (forest (map tree_of (drop i parts))) ≡ size_of (tree_of part) + size_of_all (forest (map tree_of (drop (i + 1) parts)))
size-on parts i part h = ap size_of_all (parts-on parts i part h)

pub room-on : (bad : Tree → Bool) (number next : ℕ) (parts : List Node) (i : ℕ) (part : Node) → Some part ≡ slice_get parts i
    → Ok next ≡ passed bad number (nodes (tree_of part))
    → next + size_of_all (forest (map tree_of (drop (i + 1) parts))) ≡ number + size_of_all (forest (map tree_of (drop i parts)))
room-on bad number next parts i part h e = omega (arith, passed-size bad number next (tree_of part) e, size-on parts i part h)

size-over : (h : Here) (ts : Trees) → Fits h ts → size_of (over h ts) ≡ suc (size_of_all ts)
size-over (bare label) ts f = omega arith
size-over (at automatic) (more (tree run label us) none) f = omega arith
size-over (at automatic) none f = absurd f
size-over (at automatic) (more t (more u ts)) f = absurd f

pub size-view : (v : View) → size_of (tree_in v) ≡ suc (size_of_all (forest (map tree_of (parts_in v))))
size-view v = size-over (here_in v) (forest (map tree_of (parts_in v))) (fits v)

wrong-by : (bad : Tree → Bool) (number wrong : ℕ) (ts : List Tree) (b : Bool)
    → (Err wrong ≡ passed bad (number + 1) ts → position_from bad (number + 1) ts ≡ Some wrong)
    → Err wrong ≡ (if b then Err number else passed bad (number + 1) ts) → (if b then Some number else position_from bad (number + 1) ts) ≡ Some wrong
wrong-by bad number wrong ts true k e = let same : wrong ≡ number = cc in ap Some (sym same)
wrong-by bad number wrong ts false k e = k e

pub first-wrong : (bad : Tree → Bool) (number wrong : ℕ) (ts : List Tree) → Err wrong ≡ passed bad number ts → position_from bad number ts ≡ Some wrong
first-wrong bad number wrong [] e = cc
first-wrong bad number wrong (t ∷ ts) e = wrong-by bad number wrong ts (bad t) (first-wrong bad (number + 1) wrong ts) e

good-by : (bad : Tree → Bool) (number next : ℕ) (ts : List Tree) (b : Bool)
    → (Ok next ≡ passed bad (number + 1) ts → position_from bad (number + 1) ts ≡ None)
    → Ok next ≡ (if b then Err number else passed bad (number + 1) ts) → (if b then Some number else position_from bad (number + 1) ts) ≡ None
good-by bad number next ts true k e = cc
good-by bad number next ts false k e = k e

pub first-none : (bad : Tree → Bool) (number next : ℕ) (ts : List Tree) → Ok next ≡ passed bad number ts → position_from bad number ts ≡ None
first-none bad number next [] e = refl
first-none bad number next (t ∷ ts) e = good-by bad number next ts (bad t) (first-none bad (number + 1) next ts) e

pub ruleset passes = (passed-view, passed-bad, passed-on, passed-wrong, room-on, size-on, size-view, first-wrong, first-none, part-falls)
