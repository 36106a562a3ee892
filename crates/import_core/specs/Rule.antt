-- What an import rule says of a node, and what follows for each place of a formula.
--   Rule            which nodes import doesn't enter, which are range-like, and the context of each child
--   wanted          whether one value is wanted at a place: its context, handed down from the root
--   range_like_at   whether the node at a place is range-like. The `@`s over it don't matter
--   closed_at       whether the node at a place is one that import doesn't enter
--   IsWantedRange   one value is wanted where a range-like node stands
use Rattle.std.specs.Prelude.{ℕ, [], ◌∷◌, Bool, false, IsTrue}
use Rattle.std.specs.Option.{option_map_or}
use Rattle.tree_core.specs.Label.{Label}
use Rattle.tree_core.specs.Tree.{Tree, Trees, label_of, children_of}
use Rattle.tree_core.specs.Place.{Place, child, at}

pub record Rule : Type 0 where
  -- import goes into no child of a node with this label
  pub closed : Label → Bool
  -- a node with this label and these children may stand for many values
  pub range_like : Label → Trees → Bool
  -- whether one value is wanted of child i, from whether one is wanted of the node
  pub context : Bool → Label → Trees → ℕ → Bool

abbrev pub wanted : Rule → Bool → Tree → Place → Bool
wanted rule add t [] = add
wanted rule add t (i ∷ place) = option_map_or (λ c. wanted rule (rule.context add (label_of t) (children_of t) i) c place) (child (children_of t) i) false

abbrev pub range_like_at : Rule → Tree → Place → Bool
range_like_at rule t place = option_map_or (λ s. rule.range_like (label_of s) (children_of s)) (at t place) false

abbrev pub closed_at : Rule → Tree → Place → Bool
closed_at rule t place = option_map_or (λ s. rule.closed (label_of s)) (at t place) false

pub record IsWantedRange (rule : Rule) (add : Bool) (t : Tree) (place : Place) : Type 0 where
  pub wanted_here : IsTrue (wanted rule add t place)
  pub range_like_here : IsTrue (range_like_at rule t place)
