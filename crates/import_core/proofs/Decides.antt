-- What is decided of a formula, and its shapes, by its class.
--   classes   those of each class, from those of the parts
--   argument  one argument in its context
--   call-shapes   a call over its arguments
use Rattle.std.specs.Prelude.{slice_set}
use Rattle.std.proofs.Common.{◌≡◌, ℕ, ◌+◌, ◌*◌, ◌≤◌, Some, drop, slice_get, arith, List, [], ◌∷◌, ◌++◌, length, map, Bool, true, false, not, ◌&&◌, if◌then◌else◌, refl, sym, ap, ap₂, ◌∙◌}
use Rattle.call_core.specs.declared.function.Function.{Function}
use Rattle.kind_table.specs.declared.static_result.StaticResult.{StaticResult}
use Rattle.kind_table.specs.declared.static_result.StaticResult.TheVariants.{Scalar, Unknown}
use Rattle.kind_table.specs.Table.{Table}
use Rattle.value_core.specs.declared.operator.Operator.{Operator}
use Rattle.value_core.specs.declared.operator.OpUnary.{OpUnary}
use Rattle.tree_core.specs.Count.{calls_of, calls_of_all}
use Rattle.tree_core.specs.Formula.{tree_of, one, between, bare_leaf}
use Rattle.tree_core.specs.Label.{Leaf, Closed, passing, unary, spill, closed, call}
use Rattle.tree_core.specs.Tree.{Tree, tree, Trees, forest, under}
use Rattle.tree_core.specs.declared.node.Node.{Node}
use Rattle.tree_core.proofs.Parts.{set-first}
use Rattle.shape_core.specs.Shape.{shape, shapes, call_shape, leaf_shape, shown_all}
use Rattle.shape_core.proofs.AllShapes.{calls-on}
use Rattle.shape_core.proofs.Forest.{shapes-forest}
use Rattle.import_core.specs.declared.rule.ImportRule.{ImportRule}
use Rattle.import_core.specs.declared.import_shapes.ImportShapes.{ImportShapes}
use Rattle.import_core.specs.After.{after, after_all, binds, is_large, is_range_like_leaf, is_range_operator, wants_one}
use Rattle.import_core.specs.Arguments.{each}
use Rattle.import_core.specs.Decisions.{import_shapes, combine, decisions, argument_decisions}
use Rattle.import_core.specs.ImportRule.{import_rule}
use Rattle.import_core.proofs.Arguments.{each-afters}
use Rattle.import_core.proofs.Builds.{decisions-leaf, decisions-closed, decisions-unary, decisions-between, decisions-spill, decisions-under}
use Rattle.import_core.proofs.Classes.{call_after}

abbrev of_shapes : (given unwanted wanted : StaticResult) → ImportShapes
of_shapes given unwanted wanted = record { given = given; unwanted = unwanted; wanted = wanted }

module _ (which : ImportRule) (table : Table) where
  pub shapes-leaf : (l : Leaf) → import_shapes which table (bare_leaf l) ≡ record { given = leaf_shape l; unwanted = leaf_shape l; wanted = (if is_range_like_leaf l then Scalar else leaf_shape l) }
  shapes-leaf l = refl

  pub shapes-closed : (c : Closed) (ts : Trees) → import_shapes which table (tree [] (closed c) ts) ≡ record { given = Unknown; unwanted = Unknown; wanted = (if is_range_operator c then Scalar else Unknown) }
  shapes-closed c ts = refl

  pub shapes-unary : (kind : OpUnary) (t : Tree) → import_shapes which table (tree [] (passing (unary kind)) (one t)) ≡ import_shapes which table t
  shapes-unary kind t = refl

  pub shapes-between : (operator : Operator) (t u : Tree) → import_shapes which table (between operator t u) ≡ combine (import_shapes which table t) (import_shapes which table u)
  shapes-between operator t u = refl

  pub shapes-spill : (t : Tree) → import_shapes which table (tree [] spill (one t)) ≡ record { given = Unknown; unwanted = Unknown; wanted = Unknown }
  shapes-spill t = refl

  pub shapes-under : (automatic : Bool) (t : Tree) → import_shapes which table (under automatic t) ≡ record { given = Scalar; unwanted = Scalar; wanted = Scalar }
  shapes-under automatic (tree run label ts) = refl

  pub in-context : (context : Bool) (t : Tree) → (if context then after which table true t else after which table false t) ≡ after which table context t
  in-context true t = refl
  in-context false t = refl

  -- a call over arguments with these shapes
  module _ (kind : Function) (args : List Node) (given_shapes imported_shapes : List StaticResult) (given imported : StaticResult)
      (of_given : given_shapes ≡ map (λ arg. shape table (tree_of arg)) args)
      (of_imported : imported_shapes ≡ each (λ i arg. after which table (wants_one which table kind (shapes table (forest (map tree_of args))) i) (tree_of arg)) args)
      (is_given : given ≡ call_shape table kind (shown_all (forest (map tree_of args))) given_shapes)
      (is_imported : imported ≡ call_shape table kind (shown_all (forest (map tree_of args))) imported_shapes) where
    imported_is : imported ≡ call_after which table kind (forest (map tree_of args))
    imported_is = is_imported ∙ ap (call_shape table kind (shown_all (forest (map tree_of args)))) (of_imported ∙ each-afters which table (wants_one which table kind (shapes table (forest (map tree_of args)))) args)

    given_is : given ≡ shape table (tree [] (call kind) (forest (map tree_of args)))
    given_is = is_given ∙ ap (call_shape table kind (shown_all (forest (map tree_of args)))) (of_given ∙ sym (shapes-forest table args))

    pub call-like : (not (binds kind) && is_large imported) ≡ (import_rule which table).range_like (call kind) (forest (map tree_of args))
    call-like = ap (λ s. not (binds kind) && is_large s) imported_is

    abbrev of_both : StaticResult → StaticResult → ImportShapes
    of_both g s = of_shapes g s (if not (binds kind) && is_large s then Scalar else s)

    pub call-shapes : (like : Bool) (found : ImportShapes) → like ≡ (not (binds kind) && is_large imported)
        → found ≡ record { given = given; unwanted = imported; wanted = (if like then Scalar else imported) }
        → found ≡ import_shapes which table (tree [] (call kind) (forest (map tree_of args)))
    call-shapes like found h e = e ∙ ap (λ b. of_shapes given imported (if b then Scalar else imported)) h ∙ ap₂ of_both given_is imported_is

    pub call-decided : (like : Bool) (old with_first all new : List Bool) (at : ℕ) → like ≡ (not (binds kind) && is_large imported) → at ≡ length old → with_first ≡ old ++ false ∷ []
        → all ≡ with_first ++ argument_decisions which table (wants_one which table kind (shapes table (forest (map tree_of args)))) (forest (map tree_of args))
        → new ≡ slice_set all at like → new ≡ old ++ decisions which table (tree [] (call kind) (forest (map tree_of args)))
    call-decided like old with_first all new at h start e f g =
        let below = argument_decisions which table (wants_one which table kind (shapes table (forest (map tree_of args)))) (forest (map tree_of args)) in
        g ∙ ap (λ n. slice_set all n like) start ∙ set-first old with_first all below false like e f ∙ ap (λ b. old ++ b ∷ below) (h ∙ call-like)

pub calls-under : (automatic : Bool) (t : Tree) → calls_of (under automatic t) ≡ calls_of t
calls-under automatic (tree run label ts) = refl

pub twice-next : (parts : List Node) (i : ℕ) (part : Node) → Some part ≡ slice_get parts i → (steps next most : ℕ) → next ≤ steps + 2 * calls_of (tree_of part)
    → steps + 2 * calls_of_all (forest (map tree_of (drop i parts))) ≤ most → next + 2 * calls_of_all (forest (map tree_of (drop (i + 1) parts))) ≤ most
twice-next parts i part h steps next most e f = let one = calls-on parts i part h in omega arith

pub ruleset classes = (shapes-leaf, shapes-closed, shapes-unary, shapes-between, shapes-spill, shapes-under, decisions-leaf, decisions-closed, decisions-unary, decisions-between, decisions-spill, decisions-under, calls-under)

pub ruleset argument = (set-first, in-context)
