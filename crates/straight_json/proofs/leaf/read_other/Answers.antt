use Rattle.std.proofs.Common.{◌≡◌, ◌∷◌, Some, map, option_map, sym, ap, ◌∙◌, arith, rules}
use Rattle.serde_json.specs.Data.{null}
use Rattle.serde_json.specs.View.{view}
use Rattle.serde_json.specs.declared.value.Value.{Null, the_lemmas}
use Rattle.tree_core.specs.Formula.{bare_leaf, tree_of}
use Rattle.formula_json.specs.Leaves.{leaf_of}
use Rattle.straight_json.proofs.Leaves.{other-tagged}
use Rattle.straight_json.proofs.leaf.read_other.Goals as goal

pub returns : goal.returns
returns c =
    let items = c.in_ok-items.items.items in
    let full : c.insert.new.self.items ≡ Null ∷ items = grind arith in
    let same : c.deref.result.now ≡ c.insert.new.self.items = c.deref.ensures.value in
    let blank : view (Null) ≡ null = search (rules, the_lemmas) in
    let seen : map view c.deref.result.now ≡ null ∷ map view items = ap (map view) (same ∙ full) ∙ ap (λ first. first ∷ map view items) blank in
    let is : option_map bare_leaf (leaf_of c.args.leaf (null ∷ map view items)) ≡ Some (tree_of c.in_ok-node.node) = ap (λ ds. option_map bare_leaf (leaf_of c.args.leaf ds)) (sym seen) ∙ c.in_ok-node.ensures in
    other-tagged c.args.depth c.args.leaf c.args.reader.now c.read_items.new.reader items c.in_ok-node.node c.in_ok-items.ensures.read is
