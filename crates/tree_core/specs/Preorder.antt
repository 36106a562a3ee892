-- Nodes by number. Numbers count from 0 in preorder: a node before its children, these from left to right.
--   under_run, nodes, nodes_of_all  the formula that each node is the root of, the `@`s among the nodes
--   node_at                         the one of a number, where there is one
--   next                            a place in a row of trees, once one more stands at its front
--   places, places_of_all           the place of each node of the skeleton: no `@` counts
--   place_of                        the one of a number, where there is one
--   number_of, number_in            the number of a place, in a tree and in a row of trees
--   NodesAreCounted   there are as many nodes as the formula counts
--   PlacesAreNumbered  there are as many places as the skeleton counts nodes; each place that is there has its number, and no other
use Rattle.std.specs.Prelude.{◌≡◌, ℕ, zero, suc, ◌+◌, List, [], ◌∷◌, ◌++◌, length, map, slice_get, Option, Some, IsSome}
use Rattle.tree_core.specs.Label.{Label}
use Rattle.tree_core.specs.Tree.{Run, Tree, tree, Trees, none, more, skeleton}
use Rattle.tree_core.specs.Place.{Place, at}
use Rattle.tree_core.specs.Count.{size_of}

abbrev pub under_run : Run → Label → Trees → List Tree → List Tree
under_run [] label ts rest = tree [] label ts ∷ rest
under_run (flag ∷ run) label ts rest = tree (flag ∷ run) label ts ∷ under_run run label ts rest

abbrev mutual
  pub nodes : Tree → List Tree
  nodes (tree run label ts) = under_run run label ts (nodes_of_all ts)

  pub nodes_of_all : Trees → List Tree
  nodes_of_all none = []
  nodes_of_all (more t ts) = nodes t ++ nodes_of_all ts

abbrev pub node_at : Tree → ℕ → Option Tree
node_at t number = slice_get (nodes t) number

abbrev pub next : Place → Place
next [] = []
next (i ∷ place) = suc i ∷ place

abbrev mutual
  pub places : Tree → List Place
  places (tree run label ts) = [] ∷ places_of_all ts

  pub places_of_all : Trees → List Place
  places_of_all none = []
  places_of_all (more t ts) = map (λ place. 0 ∷ place) (places t) ++ map next (places_of_all ts)

abbrev pub place_of : Tree → ℕ → Option Place
place_of t number = slice_get (places t) number

abbrev mutual
  pub number_of : Tree → Place → ℕ
  number_of t [] = 0
  number_of (tree run label ts) (i ∷ place) = suc (number_in ts i place)

  pub number_in : Trees → ℕ → Place → ℕ
  number_in none i place = 0
  number_in (more t ts) zero place = number_of t place
  number_in (more t ts) (suc i) place = length (places t) + number_in ts i place

abbrev pub NodesAreCounted : Type 0
NodesAreCounted = (t : Tree) → length (nodes t) ≡ size_of t

pub record PlacesAreNumbered : Type 0 where
  pub counted : (t : Tree) → length (places t) ≡ size_of (skeleton t)
  pub found : (t : Tree) (place : Place) → IsSome (at t place) → place_of t (number_of t place) ≡ Some place
  pub there : (t : Tree) (number : ℕ) (place : Place) → place_of t number ≡ Some place → IsSome (at t place)
  pub only : (t : Tree) (number : ℕ) (place : Place) → place_of t number ≡ Some place → number ≡ number_of t place
