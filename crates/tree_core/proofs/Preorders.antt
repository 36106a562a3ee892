-- Nodes and places by number.
--   nodes_counted, places_numbered   the laws
use Rattle.std.proofs.Common.{◌≡◌, ℕ, zero, suc, ◌+◌, ◌⊎◌, inl, inr, List, [], ◌∷◌, ◌++◌, Option, Some, None, IsSome, length, map, slice_get, refl, sym, ap, ap₂, subst, ◌∙◌, arith, length-append}
use Rattle.std.specs.Option.{option_map_or}
use Rattle.std.proofs.lemmas.List.{length-map}
use Rattle.tree_core.specs.Label.{Label}
use Rattle.tree_core.specs.Tree.{Run, Tree, tree, Trees, none, more, skeleton, skeletons}
use Rattle.tree_core.specs.Place.{Place, child, at}
use Rattle.tree_core.specs.Count.{size_of, size_of_all}
use Rattle.tree_core.specs.Preorder.{under_run, nodes, nodes_of_all, next, places, places_of_all, number_of, number_in, NodesAreCounted, PlacesAreNumbered}

under_run-length : (run : Run) (label : Label) (ts : Trees) (rest : List Tree) → length (under_run run label ts rest) ≡ length run + 1 + length rest
under_run-length [] label ts rest = omega arith
under_run-length (flag ∷ run) label ts rest = omega (arith, under_run-length run label ts rest)

mutual
  nodes-length : (t : Tree) → length (nodes t) ≡ size_of t
  nodes-length (tree run label ts) = omega (arith, under_run-length run label ts (nodes_of_all ts), all_nodes-length ts)

  all_nodes-length : (ts : Trees) → length (nodes_of_all ts) ≡ size_of_all ts
  all_nodes-length none = refl
  all_nodes-length (more t ts) = length-append (nodes t) (nodes_of_all ts) ∙ ap₂ (λ m n. m + n) (nodes-length t) (all_nodes-length ts)

pub nodes_counted : NodesAreCounted
nodes_counted = nodes-length

mutual
  places-length : (t : Tree) → length (places t) ≡ size_of (skeleton t)
  places-length (tree run label ts) = omega (arith, all_places-length ts)

  all_places-length : (ts : Trees) → length (places_of_all ts) ≡ size_of_all (skeletons ts)
  all_places-length none = refl
  all_places-length (more t ts) =
      length-append (map (λ place. 0 ∷ place) (places t)) (map next (places_of_all ts))
      ∙ ap₂ (λ m n. m + n) (length-map (places t) _ ∙ places-length t) (length-map (places_of_all ts) _ ∙ all_places-length ts)

-- ---- what stands in a list at a number

module _ {A : Type 0} where
  get-left : (xs ys : List A) (n : ℕ) (x : A) → slice_get xs n ≡ Some x → slice_get (xs ++ ys) n ≡ Some x
  get-left [] ys n x e = cc
  get-left (first ∷ xs) ys zero x e = e
  get-left (first ∷ xs) ys (suc n) x e = get-left xs ys n x e

  get-right : (xs ys : List A) (n : ℕ) → slice_get (xs ++ ys) (length xs + n) ≡ slice_get ys n
  get-right [] ys n = let same : 0 + n ≡ n = omega arith in ap (slice_get ys) same
  get-right (first ∷ xs) ys n =
      let same : suc (length xs) + n ≡ suc (length xs + n) = omega arith in ap (slice_get (first ∷ xs ++ ys)) same ∙ get-right xs ys n

  get-either : (xs ys : List A) (n : ℕ) (x : A) → slice_get (xs ++ ys) n ≡ Some x
      → (slice_get xs n ≡ Some x) ⊎ ((m : ℕ) × ((n ≡ length xs + m) × (slice_get ys m ≡ Some x)))
  get-either [] ys n x e = inr (n, (let same : n ≡ 0 + n = omega arith in same, e))
  get-either (first ∷ xs) ys zero x e = inl e
  get-either (first ∷ xs) ys (suc n) x e = elim (get-either xs ys n x e) [
    | inl found ↦ inl found
    | inr found ↦ inr (found.0, (let same : suc n ≡ suc (length xs) + found.0 = omega (arith, found.1.0) in same, found.1.1))
  ]

module _ {A B : Type 0} (f : A → B) where
  get-map : (xs : List A) (n : ℕ) (x : A) → slice_get xs n ≡ Some x → slice_get (map f xs) n ≡ Some (f x)
  get-map [] n x e = cc
  get-map (first ∷ xs) zero x e = cc
  get-map (first ∷ xs) (suc n) x e = get-map xs n x e

  get-mapped : (xs : List A) (n : ℕ) (y : B) → slice_get (map f xs) n ≡ Some y → (x : A) × ((slice_get xs n ≡ Some x) × (y ≡ f x))
  get-mapped [] n y e = cc
  get-mapped (first ∷ xs) zero y e = (first, (refl, cc))
  get-mapped (first ∷ xs) (suc n) y e = get-mapped xs n y e

-- ---- the number of a place

mutual
  numbered : (t : Tree) (place : Place) → IsSome (at t place) → slice_get (places t) (number_of t place) ≡ Some place
  numbered (tree run label ts) [] there = refl
  numbered (tree run label ts) (i ∷ place) there = numbered_in ts i place there

  numbered_in : (ts : Trees) (i : ℕ) (place : Place) → IsSome (option_map_or (λ c. at c place) (child ts i) None) → slice_get (places_of_all ts) (number_in ts i place) ≡ Some (i ∷ place)
  numbered_in none i place there = cc
  numbered_in (more t ts) zero place there =
      get-left (map (λ q. 0 ∷ q) (places t)) (map next (places_of_all ts)) (number_of t place) (0 ∷ place) (get-map (λ q. 0 ∷ q) (places t) (number_of t place) place (numbered t place there))
  numbered_in (more t ts) (suc i) place there =
      ap (λ n. slice_get (map (λ q. 0 ∷ q) (places t) ++ map next (places_of_all ts)) (n + number_in ts i place)) (sym (length-map (places t) (λ q. 0 ∷ q)))
      ∙ get-right (map (λ q. 0 ∷ q) (places t)) (map next (places_of_all ts)) (number_in ts i place)
      ∙ get-map next (places_of_all ts) (number_in ts i place) (i ∷ place) (numbered_in ts i place there)

-- ---- the place of a number

record Here (ts : Trees) (n : ℕ) (place : Place) : Type 0 where
  number : ℕ
  rest : Place
  is : place ≡ number ∷ rest
  there : IsSome (option_map_or (λ c. at c rest) (child ts number) None)
  numbered : n ≡ number_in ts number rest

mutual
  placed : (t : Tree) (n : ℕ) (place : Place) → slice_get (places t) n ≡ Some place → IsSome (at t place) × (n ≡ number_of t place)
  placed (tree run label ts) zero place e = let first : [] ≡ place = cc in subst (λ p. IsSome (at (tree run label ts) p) × (0 ≡ number_of (tree run label ts) p)) first (refl, refl)
  placed (tree run label ts) (suc n) place e =
      let here = placed_in ts n place e in
      subst (λ p. IsSome (at (tree run label ts) p) × (suc n ≡ number_of (tree run label ts) p)) (sym here.is) (here.there, ap suc here.numbered)

  placed_in : (ts : Trees) (n : ℕ) (place : Place) → slice_get (places_of_all ts) n ≡ Some place → Here ts n place
  placed_in none n place e = cc
  placed_in (more t ts) n place e = elim (get-either (map (λ q. 0 ∷ q) (places t)) (map next (places_of_all ts)) n place e) [
    | inl found ↦
        let under = get-mapped (λ q. 0 ∷ q) (places t) n place found in
        let it = placed t n under.0 under.1.0 in
        record { number = 0; rest = under.0; is = under.1.1; there = it.0; numbered = it.1 }
    | inr found ↦
        let under = get-mapped next (places_of_all ts) found.0 place found.1.1 in
        let it = placed_in ts found.0 under.0 under.1.0 in
        record {
          number = suc it.number;
          rest = it.rest;
          is = under.1.1 ∙ ap next it.is;
          there = it.there;
          numbered = found.1.0 ∙ ap₂ (λ a b. a + b) (length-map (places t) (λ q. 0 ∷ q)) it.numbered;
        }
  ]

pub places_numbered : PlacesAreNumbered
places_numbered = record {
  counted = places-length;
  found = numbered;
  there = λ t number place e. (placed t number place e).0;
  only = λ t number place e. (placed t number place e).1;
}
