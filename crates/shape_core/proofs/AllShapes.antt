-- The shapes of all parts in a row, by the class of a formula.
--   wholes  what was put for the node itself is set once its parts are there
--   parts   the shapes below a node are those of its parts
--   rows-on, shapes-on, calls-on, calls-next   one part more
use Rattle.std.proofs.Common.{◌≡◌, ℕ, ◌+◌, ◌≤◌, List, [], ◌∷◌, ◌++◌, Some, Bool, drop, take, length, map, slice_get, refl, sym, ap, ap₂, ◌∙◌, append_assoc, append-nil, arith}
use Rattle.std.proofs.lemmas.List.{map-append}
use Rattle.std.specs.Prelude.{slice_set}
use Rattle.call_core.specs.declared.function.Function.{Function}
use Rattle.tree_core.specs.Count.{calls_of, calls_of_all}
use Rattle.tree_core.specs.Formula.{tree_of, one, between, bare_leaf}
use Rattle.tree_core.specs.Label.{Leaf, Closed, passing, unary, spill, closed, call}
use Rattle.tree_core.specs.Preorder.{nodes, nodes_of_all}
use Rattle.tree_core.specs.Tree.{Tree, tree, forest, under}
use Rattle.tree_core.specs.declared.node.Node.{Node}
use Rattle.tree_core.proofs.Parts.{drop-on, take-on, set-first}
use Rattle.value_core.specs.declared.operator.Operator.{Operator}
use Rattle.value_core.specs.declared.operator.OpUnary.{OpUnary}
use Rattle.kind_table.specs.declared.static_result.StaticResult.{StaticResult}
use Rattle.kind_table.specs.Table.{Table}
use Rattle.shape_core.specs.Shape.{shape}

pub nodes-first : (t : Tree) → nodes t ≡ t ∷ drop 1 (nodes t)
nodes-first (tree [] label ts) = refl
nodes-first (tree (flag ∷ run) label ts) = refl

module _ (table : Table) where
  pub row-set : (old with_first all : List StaticResult) (first found : StaticResult) (t : Tree) → with_first ≡ old ++ first ∷ [] → all ≡ with_first ++ map (shape table) (drop 1 (nodes t)) → found ≡ shape table t
      → slice_set all (length old) found ≡ old ++ map (shape table) (nodes t)
  row-set old with_first all first found t e f g =
      set-first old with_first all (map (shape table) (drop 1 (nodes t))) first found e f
      ∙ ap (λ s. old ++ s ∷ map (shape table) (drop 1 (nodes t))) g ∙ ap (λ ns. old ++ map (shape table) ns) (sym (nodes-first t))

  abbrev row : Tree → List StaticResult
  row t = map (shape table) (nodes t)

  abbrev below : Tree → List StaticResult
  below t = map (shape table) (drop 1 (nodes t))

  pub below-leaf : (l : Leaf) → below (bare_leaf l) ≡ []
  below-leaf l = refl

  pub below-closed : (c : Closed) (args : List Node) → below (tree [] (closed c) (forest (map tree_of args))) ≡ map (shape table) (nodes_of_all (forest (map tree_of args)))
  below-closed c args = refl

  pub below-unary : (kind : OpUnary) (t : Tree) → below (tree [] (passing (unary kind)) (one t)) ≡ row t
  below-unary kind t = ap (map (shape table)) (append-nil (nodes t))

  pub below-between : (operator : Operator) (t u : Tree) → below (between operator t u) ≡ row t ++ row u
  below-between operator t u = ap (λ rest. map (shape table) (nodes t ++ rest)) (append-nil (nodes u)) ∙ map-append (shape table) (nodes t) (nodes u)

  pub below-spill : (t : Tree) → below (tree [] spill (one t)) ≡ row t
  below-spill t = ap (map (shape table)) (append-nil (nodes t))

  pub below-under : (automatic : Bool) (t : Tree) → below (under automatic t) ≡ row t
  below-under automatic (tree run label ts) = refl

  pub below-call : (kind : Function) (args : List Node) → below (tree [] (call kind) (forest (map tree_of args))) ≡ map (shape table) (nodes_of_all (forest (map tree_of args)))
  below-call kind args = refl

  abbrev rows : List Node → List StaticResult
  rows parts = map (shape table) (nodes_of_all (forest (map tree_of parts)))

  pub rows-on : (parts : List Node) (i : ℕ) (part : Node) → Some part ≡ slice_get parts i
      → (old new whole : List StaticResult) → new ≡ old ++ row (tree_of part) → old ++ rows (drop i parts) ≡ whole → new ++ rows (drop (i + 1) parts) ≡ whole
  rows-on parts i part h old new whole e f =
      ap (λ xs. xs ++ rows (drop (i + 1) parts)) e ∙ append_assoc old (row (tree_of part)) (rows (drop (i + 1) parts))
      ∙ ap (λ xs. old ++ xs) (sym (ap rows (drop-on parts i part h) ∙ map-append (shape table) (nodes (tree_of part)) _)) ∙ f

  pub shapes-on : (parts : List Node) (i : ℕ) (part : Node) → Some part ≡ slice_get parts i
      → (old new : List StaticResult) (found : StaticResult) → new ≡ old ++ found ∷ [] → old ≡ map (λ p. shape table (tree_of p)) (take i parts) → found ≡ shape table (tree_of part)
      → new ≡ map (λ p. shape table (tree_of p)) (take (i + 1) parts)
  shapes-on parts i part h old new found e f g =
      e ∙ ap₂ (λ xs s. xs ++ s ∷ []) f g
      ∙ sym (ap (map (λ p. shape table (tree_of p))) (take-on parts i part h) ∙ map-append (λ p. shape table (tree_of p)) (take i parts) (part ∷ []))

pub calls-on : (parts : List Node) (i : ℕ) (part : Node) → Some part ≡ slice_get parts i
    → calls_of_all (forest (map tree_of (drop i parts))) ≡ calls_of (tree_of part) + calls_of_all (forest (map tree_of (drop (i + 1) parts)))
calls-on parts i part h = ap (λ ps. calls_of_all (forest (map tree_of ps))) (drop-on parts i part h)

pub calls-next : (parts : List Node) (i : ℕ) (part : Node) → Some part ≡ slice_get parts i → (steps next most : ℕ) → next ≤ steps + calls_of (tree_of part)
    → steps + calls_of_all (forest (map tree_of (drop i parts))) ≤ most → next + calls_of_all (forest (map tree_of (drop (i + 1) parts))) ≤ most
calls-next parts i part h steps next most e f = let one = calls-on parts i part h in omega arith

pub ruleset ons = (calls-on)

pub ruleset wholes = (row-set)

pub ruleset parts = (below-leaf, below-closed, below-unary, below-between, below-spill, below-under, below-call)
