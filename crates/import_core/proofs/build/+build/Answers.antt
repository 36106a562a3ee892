use Rattle.std.proofs.Common.{◌≡◌, ◌<◌, ◌≤◌, ◌+◌, ◌∙◌, sym, ap, subst, length, map, arith, rules}
use Rattle.std.proofs.lemmas.List.{map-append}
use denote.Param.Weighed.{most}
use Rattle.tree_core.specs.Formula.{tree_of}
use Rattle.tree_core.specs.Tree.{forest}
use Rattle.tree_core.specs.declared.node.Node.{size-Node}
use Rattle.tree_core.proofs.Parts.{read-at}
use Rattle.tree_core.proofs.Views.{deepest}
use Rattle.shape_core.specs.Shape.{shapes}
use Rattle.import_core.specs.After.{wants_one}
use Rattle.import_core.specs.Decisions.{StandsAt, argument_decisions, decision_count}
use Rattle.import_core.specs.ImportOf.{import_of}
use Rattle.import_core.specs.ImportRule.{import_rule}
use Rattle.import_core.proofs.Arguments.{each-more}
use Rattle.import_core.proofs.Builds.{argument-behind, call-built, kept-count, kept-within, stands-argument, stands-between, stands-first, stands-rest, stands-within}
use Rattle.import_core.proofs.build.+build.Goals as goal

pub build-build-requires-in-Binary-2 : goal.build-build-requires-in-Binary-2
build-build-requires-in-Binary-2 g t c κs within =
    let next = stands-between c.args.rule (g.K.Kinds.table c.args.kinds.now) c.args.decided.now c.args.at c.in-Binary.operator (tree_of c.in-Binary.left.now) (tree_of c.in-Binary.right.now) (tree_of c.args.node.now)
    c.in_ok-left-in-Binary.left.next c.in-Binary.ensures.tree c.requires.stands c.in_ok-left-in-Binary.ensures.next in
    (omega (arith, c.decreases, c.in-Binary.ensures.falls), (within, (c.in_ok-left-in-Binary.ensures.within, next)))

pub build-decision_count-requires : goal.build-decision_count-requires
build-decision_count-requires g t c =
    let within : c.args.at + decision_count (tree_of c.in-Intersection.child.now) ≤ length c.args.decided.now =
    kept-within c.args.rule (g.K.Kinds.table c.args.kinds.now) c.args.decided.now c.args.at c.in-Intersection.automatic (tree_of c.in-Intersection.child.now) (tree_of c.args.node.now) c.in-Intersection.ensures.tree c.requires.start c.requires.stands in
    search rules

pub build-overflow_add-next : goal.build-overflow_add-next
build-overflow_add-next g t c =
    let within : c.args.at + decision_count (tree_of c.in-Intersection.child.now) ≤ length c.args.decided.now =
    kept-within c.args.rule (g.K.Kinds.table c.args.kinds.now) c.args.decided.now c.args.at c.in-Intersection.automatic (tree_of c.in-Intersection.child.now) (tree_of c.args.node.now) c.in-Intersection.ensures.tree c.requires.start c.requires.stands in
    search rules

pub build-returns-in_ok-built-in-Intersection-2-clause-next : goal.build-returns-in_ok-built-in-Intersection-2-clause-next
build-returns-in_ok-built-in-Intersection-2-clause-next g t c =
    let count = kept-count c.args.rule (g.K.Kinds.table c.args.kinds.now) c.args.decided.now c.args.at c.in-Intersection.automatic (tree_of c.in-Intersection.child.now) (tree_of c.args.node.now) c.in-Intersection.ensures.tree in
    c.in_ok-built-in-Intersection-2.ensures.next ∙ ap (λ n. c.args.at + n) (c.decision_count.ensures ∙ sym count)

pub build-returns-in_ok-built-in-Intersection-2-clause-within : goal.build-returns-in_ok-built-in-Intersection-2-clause-within
build-returns-in_ok-built-in-Intersection-2-clause-within g t c =
    let within : c.args.at + decision_count (tree_of c.in-Intersection.child.now) ≤ length c.args.decided.now =
    kept-within c.args.rule (g.K.Kinds.table c.args.kinds.now) c.args.decided.now c.args.at c.in-Intersection.automatic (tree_of c.in-Intersection.child.now) (tree_of c.args.node.now) c.in-Intersection.ensures.tree c.requires.start c.requires.stands in
    omega (arith, within, c.in_ok-built-in-Intersection-2.ensures.next, c.decision_count.ensures)

pub build_call-build_arguments-requires : goal.build_call-build_arguments-requires
build_call-build_arguments-requires g t c κs within =
    let start : c.args.at < length c.args.decided.now = stands-within c.args.decided.now c.args.at _ _ c.requires.stands in
    (omega (arith, c.decreases), (within, (omega (arith, start), stands-rest c.args.decided.now c.args.at _ _ c.requires.stands)))

pub build_call-returns-clause-tree : goal.build_call-returns-clause-tree
build_call-returns-clause-tree g t c =
    call-built c.args.rule (g.K.Kinds.table c.args.kinds.now) c.args.add c.args.kind c.args.args.now _ _ _ (stands-first c.args.decided.now c.args.at _ _ _ c.requires.stands) c.in_ok-args.ensures.trees c.in_ok-built.ensures.tree

pub build_arguments-bounds-decided-next : goal.build_arguments-bounds-decided-next
build_arguments-bounds-decided-next g t c =
    let table = g.K.Kinds.table c.args.kinds.now in
    let items = c.as_slice-arg-items.result.now in
    let i = c.loop-index.index in
    let arg = c.arg-item.result in
    let at = read-at items i arg c.loop-index-test.true c.arg-item.is in
    let contexts = wants_one c.args.rule table c.args.kind (shapes table (forest (map tree_of items))) in
    let stands = subst (λ nodes. StandsAt c.args.decided.now c.args.at (argument_decisions c.args.rule table (wants_one c.args.rule table c.args.kind (shapes table (forest (map tree_of nodes)))) (forest (map tree_of nodes))))
    (sym c.as_slice-arg-items.ensures) c.requires.stands in
    let here = stands-argument c.args.rule table c.args.decided.now c.args.at contexts items i arg c.loop-index.next at stands c.loop-index.invariant.next in
    stands-within c.args.decided.now c.loop-index.next _ _ here

pub build_arguments-overflow_add-next : goal.build_arguments-overflow_add-next
build_arguments-overflow_add-next g t c =
    let table = g.K.Kinds.table c.args.kinds.now in
    let items = c.as_slice-arg-items.result.now in
    let i = c.loop-index.index in
    let arg = c.arg-item.result in
    let at = read-at items i arg c.loop-index-test.true c.arg-item.is in
    let contexts = wants_one c.args.rule table c.args.kind (shapes table (forest (map tree_of items))) in
    let stands = subst (λ nodes. StandsAt c.args.decided.now c.args.at (argument_decisions c.args.rule table (wants_one c.args.rule table c.args.kind (shapes table (forest (map tree_of nodes)))) (forest (map tree_of nodes))))
    (sym c.as_slice-arg-items.ensures) c.requires.stands in
    let here = stands-argument c.args.rule table c.args.decided.now c.args.at contexts items i arg c.loop-index.next at stands c.loop-index.invariant.next in
    let within : c.loop-index.next < length c.args.decided.now = stands-within c.args.decided.now c.loop-index.next _ _ here in
    search rules

pub build_arguments-build-requires : goal.build_arguments-build-requires
build_arguments-build-requires g t c κs within =
    let table = g.K.Kinds.table c.args.kinds.now in
    let items = c.as_slice-arg-items.result.now in
    let i = c.loop-index.index in
    let arg = c.arg-item.result in
    let at = read-at items i arg c.loop-index-test.true c.arg-item.is in
    let contexts = wants_one c.args.rule table c.args.kind (shapes table (forest (map tree_of items))) in
    let stands = subst (λ nodes. StandsAt c.args.decided.now c.args.at (argument_decisions c.args.rule table (wants_one c.args.rule table c.args.kind (shapes table (forest (map tree_of nodes)))) (forest (map tree_of nodes))))
    (sym c.as_slice-arg-items.ensures) c.requires.stands in
    let here = stands-argument c.args.rule table c.args.decided.now c.args.at contexts items i arg c.loop-index.next at stands c.loop-index.invariant.next in
    let below : c.loop-index.next < length c.args.decided.now = stands-within c.args.decided.now c.loop-index.next _ _ here in
    let depth : size-Node arg ≤ most size-Node items = deepest items i arg at in
    let deep : most size-Node items ≡ most size-Node c.args.args.now = ap (most size-Node) c.as_slice-arg-items.ensures in
    (omega (arith, c.decreases, depth, deep), (within, (omega (arith, below), stands-rest c.args.decided.now c.loop-index.next _ _ here)))

pub build_arguments-loop-index-preserved : goal.build_arguments-loop-index-preserved
build_arguments-loop-index-preserved g t c =
    let table = g.K.Kinds.table c.args.kinds.now in
    let items = c.as_slice-arg-items.result.now in
    let i = c.loop-index.index in
    let arg = c.arg-item.result in
    let at = read-at items i arg c.loop-index-test.true c.arg-item.is in
    let contexts = wants_one c.args.rule table c.args.kind (shapes table (forest (map tree_of items))) in
    let stands = subst (λ nodes. StandsAt c.args.decided.now c.args.at (argument_decisions c.args.rule table (wants_one c.args.rule table c.args.kind (shapes table (forest (map tree_of nodes)))) (forest (map tree_of nodes))))
    (sym c.as_slice-arg-items.ensures) c.requires.stands in
    let here = stands-argument c.args.rule table c.args.decided.now c.args.at contexts items i arg c.loop-index.next at stands c.loop-index.invariant.next in
    record {
      trees = ap (map tree_of) c.in_ok-add.ensures.done ∙ map-append tree_of _ _ ∙ each-more _ items i arg _ _ c.loop-index-test.true c.arg-item.is c.loop-index.invariant.trees
          (c.in_ok-built.ensures.tree ∙ ap (λ one. import_of (import_rule c.args.rule table) one (tree_of arg)) (stands-first c.args.decided.now c.loop-index.next _ _ _ here));
      next = argument-behind c.args.rule table c.args.decided.now c.args.at contexts items i arg c.loop-index.next at stands c.loop-index.invariant.next _ c.in_ok-built.ensures.next;
      within = c.in_ok-built.ensures.within;
    }
