-- What is left of a formula, by its class.
--   left-forest, left-under, left-closed   of parts, under an `@`, and of a node that import does not enter
--   left-step    of one more argument
use Rattle.std.proofs.Common.{◌≡◌, ℕ, zero, suc, ◌+◌, ◌<◌, List, [], ◌∷◌, ◌++◌, map, length, take, get_or, slice_get, Bool, true, false, if◌then◌else◌, Option, refl, ap, ap₂, sym, ◌∙◌, arith}
use Rattle.std.proofs.lemmas.List.{map-append}
use Rattle.tree_core.specs.Label.{Closed, closed}
use Rattle.tree_core.specs.Tree.{Tree, tree, Trees, more, forest, under}
use Rattle.tree_core.specs.Formula.{tree_of}
use Rattle.tree_core.specs.declared.node.Node.{Node}
use Rattle.import_core.specs.ImportRule.{is_closed}
use Rattle.mark_core.specs.declared.mark.Mark.{Mark}
use Rattle.mark_core.specs.Mark.{known_of, parts_of}
use Rattle.mark_places.specs.Left.{left_of, left_of_all, left_of_part, left_of_trees}

pub left-forest : (ts : List Tree) (marks : List Mark) → left_of_trees (forest ts) marks ≡ forest (left_of_all ts marks)
left-forest [] marks = refl
left-forest (t ∷ ts) [] = refl
left-forest (t ∷ ts) (mark ∷ marks) = ap (more (left_of t mark)) (left-forest ts marks)

pub left-under : (automatic : Bool) (t : Tree) (mark : Mark) → left_of (under automatic t) mark ≡ (if (known_of mark).bare then left_of t mark else under automatic (left_of t mark))
left-under automatic (tree run label ts) mark = pick (known_of mark).bare
  where
    pick : (b : Bool) → tree (if b then [] else automatic ∷ run) label (if is_closed label then ts else left_of_trees ts (parts_of mark))
        ≡ (if b then tree (if b then [] else run) label (if is_closed label then ts else left_of_trees ts (parts_of mark))
        else under automatic (tree (if b then [] else run) label (if is_closed label then ts else left_of_trees ts (parts_of mark))))
    pick true = refl
    pick false = refl

pub left-closed : (c : Closed) (ts : Trees) (mark : Mark) → left_of (tree [] (closed c) ts) mark ≡ tree [] (closed c) ts
left-closed c ts mark = pick (known_of mark).bare
  where
    pick : (b : Bool) → tree (if b then [] else []) (closed c) ts ≡ tree [] (closed c) ts
    pick true = refl
    pick false = refl

left-bare : (ts : List Tree) → left_of_all ts [] ≡ ts
left-bare [] = refl
left-bare (t ∷ ts) = refl

left-next : (args : List Node) (i : ℕ) (arg : Node) (marks : List Mark) → i < length args → arg ≡ get_or args i arg →
    left_of_all (map tree_of (take i args)) marks ++ left_of_part (tree_of arg) (slice_get marks i) ∷ [] ≡ left_of_all (map tree_of (take (suc i) args)) marks
left-next [] i arg marks h e = absurd (omega (arith, h))
left-next (first ∷ args) zero arg [] h e = ap (λ a. tree_of a ∷ []) e
left-next (first ∷ args) zero arg (mark ∷ marks) h e = ap (λ a. left_of (tree_of a) mark ∷ []) e
left-next (first ∷ args) (suc i) arg [] h e =
    let rest = left-next args i arg [] (omega (arith, h)) e in
    ap (λ ts. tree_of first ∷ ts) (ap (λ ts. ts ++ tree_of arg ∷ []) (sym (left-bare (map tree_of (take i args)))) ∙ rest ∙ left-bare (map tree_of (take (suc i) args)))
left-next (first ∷ args) (suc i) arg (mark ∷ marks) h e = ap (λ ts. left_of (tree_of first) mark ∷ ts) (left-next args i arg marks (omega (arith, h)) e)

pub left-step : (args : List Node) (i : ℕ) (arg part : Node) (marks : List Mark) (mark : Option Mark) (before after : List Node) → i < length args → arg ≡ get_or args i arg
    → mark ≡ slice_get marks i → map tree_of before ≡ left_of_all (map tree_of (take i args)) marks → tree_of part ≡ left_of_part (tree_of arg) mark → after ≡ before ++ part ∷ []
    → map tree_of after ≡ left_of_all (map tree_of (take (i + 1) args)) marks
left-step args i arg part marks mark before after h e is known left added =
    ap (map tree_of) added ∙ map-append tree_of before (part ∷ []) ∙ ap₂ (λ ts t. ts ++ t ∷ []) known (left ∙ ap (left_of_part (tree_of arg)) is) ∙ left-next args i arg marks h e
    ∙ ap (λ n. left_of_all (map tree_of (take n args)) marks) (let e : suc i ≡ i + 1 = omega arith in e)

pub ruleset lefts = (left-forest, left-under, left-closed)
