-- The formula that a parsed array is.
use Rattle.std.proofs.Common.{◌≡◌, List, [], ◌∷◌, Vec, Global, map, refl, ap}
use Rattle.serde_json.specs.View.{view, items_view}
use Rattle.serde_json.specs.declared.value.Value.{Value, Array}
use Rattle.serde_json.proofs.Views.{view-Array}
use Rattle.value_json.proofs.Seen.{elements_of-items_view}
use Rattle.formula_json.specs.Formula.{node_in, node_of, nodes_of, node_seen}

nodes_of-items_view : (values : List Value) → nodes_of (items_view values) ≡ map node_seen values
unfolding nodes_of
nodes_of-items_view [] = refl
nodes_of-items_view (value ∷ values) = ap (λ nodes. node_of (view value) ∷ nodes) (nodes_of-items_view values)

pub node_of-Array : (values : Vec Value Global) → node_of (view (Array values)) ≡ node_in (map view values.items) (map node_seen values.items)
unfolding node_of
node_of-Array values = rw (view-Array, elements_of-items_view, nodes_of-items_view) refl
