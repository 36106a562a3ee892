-- What import decides of a formula before it builds the imported one. Nothing is decided of a node but of calls, and nothing inside of
-- a node that import doesn't enter.
--   import_shapes       the shapes of a formula: as it is given, and after import, where one value is not wanted of it and where one is
--   combine             those of an operator over two sides
--   decisions, all_decisions  of a formula and of some: whether each call is range-like, and behind it what is decided of its arguments
--   argument_decisions, call_decisions  of the arguments of a call: whether one value is wanted of each, and behind it what is decided of it
--   argument_imports, argument_shapes  the imports of a call's arguments, each in its context, and their shapes after import
--   decision_count, all_decision_counts, argument_decision_count  how many these are
--   StandsAt            a list has another one in it, from a place on
use Rattle.std.specs.Prelude.{◌≡◌, ℕ, suc, ◌+◌, Bool, true, false, List, [], ◌∷◌, ◌++◌, drop, map}
use Rattle.kind_table.specs.Shape as shape_of
use Rattle.kind_table.specs.Table.{Table}
use Rattle.tree_core.specs.Label.{leaf, passing, spill, closed, call}
use Rattle.call_core.specs.declared.function.Function.{Function}
use Rattle.kind_table.specs.declared.static_result.StaticResult.{StaticResult}
use Rattle.tree_core.specs.Formula.{tree_of}
use Rattle.tree_core.specs.Tree.{Tree, tree, Trees, none, more, forest}
use Rattle.tree_core.specs.declared.node.Node.{Node}
use Rattle.shape_core.specs.Shape.{shape}
use Rattle.import_core.specs.declared.rule.ImportRule.{ImportRule}
use Rattle.import_core.specs.declared.import_shapes.ImportShapes.{ImportShapes}
use Rattle.import_core.specs.After.{after, argument_contexts}
use Rattle.import_core.specs.Arguments.{each}
use Rattle.import_core.specs.ImportOf.{import_of}
use Rattle.import_core.specs.ImportRule.{import_rule}
use Rattle.import_core.specs.Rule.{Rule}

abbrev pub import_shapes : ImportRule → Table → Tree → ImportShapes
import_shapes which table t = record { given = shape table t; unwanted = after which table false t; wanted = after which table true t }

abbrev pub combine : ImportShapes → ImportShapes → ImportShapes
combine left right = record {
  given = shape_of.combined left.given right.given;
  unwanted = shape_of.combined left.unwanted right.unwanted;
  wanted = shape_of.combined left.wanted right.wanted;
}

abbrev mutual
  pub decisions : ImportRule → Table → Tree → List Bool
  decisions which table (tree run (leaf l) ts) = []
  decisions which table (tree run (passing p) ts) = all_decisions which table ts
  decisions which table (tree run spill ts) = all_decisions which table ts
  decisions which table (tree run (closed c) ts) = []
  decisions which table (tree run (call kind) ts) = (import_rule which table).range_like (call kind) ts ∷ argument_decisions which table (argument_contexts which table kind ts) ts

  pub all_decisions : ImportRule → Table → Trees → List Bool
  all_decisions which table none = []
  all_decisions which table (more t ts) = decisions which table t ++ all_decisions which table ts

  pub argument_decisions : ImportRule → Table → (ℕ → Bool) → Trees → List Bool
  argument_decisions which table contexts none = []
  argument_decisions which table contexts (more t ts) = contexts 0 ∷ (decisions which table t ++ argument_decisions which table (λ i. contexts (suc i)) ts)

abbrev pub call_decisions : ImportRule → Table → Function → Trees → List Bool
call_decisions which table kind args = argument_decisions which table (argument_contexts which table kind args) args

abbrev pub argument_imports : ImportRule → Table → Function → List Node → List Tree
argument_imports which table kind args = each (λ i arg. import_of (import_rule which table) (argument_contexts which table kind (forest (map tree_of args)) i) (tree_of arg)) args

abbrev pub argument_shapes : ImportRule → Table → Function → List Node → List StaticResult
argument_shapes which table kind args = each (λ i arg. after which table (argument_contexts which table kind (forest (map tree_of args)) i) (tree_of arg)) args

abbrev mutual
  pub decision_count : Tree → ℕ
  decision_count (tree run (leaf l) ts) = 0
  decision_count (tree run (passing p) ts) = all_decision_counts ts
  decision_count (tree run spill ts) = all_decision_counts ts
  decision_count (tree run (closed c) ts) = 0
  decision_count (tree run (call kind) ts) = argument_decision_count ts + 1

  pub all_decision_counts : Trees → ℕ
  all_decision_counts none = 0
  all_decision_counts (more t ts) = decision_count t + all_decision_counts ts

  pub argument_decision_count : Trees → ℕ
  argument_decision_count none = 0
  argument_decision_count (more t ts) = decision_count t + 1 + argument_decision_count ts

abbrev pub StandsAt : List Bool → ℕ → List Bool → Type 0
StandsAt all at part = (rest : List Bool) × (drop at all ≡ part ++ rest)
