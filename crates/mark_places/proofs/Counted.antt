-- How many candidates there are.
--   candidates-few  no more than nodes over which an `@` stands
use Rattle.std.proofs.Common.{◌≡◌, ℕ, suc, ◌+◌, ◌≤◌, Bool, true, false, not, ◌&&◌, List, [], ◌∷◌, ◌++◌, length, map, ap, subst, arith}
use Rattle.std.proofs.lemmas.List.{length-append, length-map}
use Rattle.std.proofs.lemmas.List.Sums.{sum_by-cons}
use Rattle.std.specs.Prelude.{sum}
use Rattle.kind_table.specs.Table.{Table}
use Rattle.tree_core.specs.Place.{Place}
use Rattle.import_core.specs.declared.rule.ImportRule.{ImportRule}
use Rattle.mark_core.specs.declared.mark.Known.{Known}
use Rattle.mark_core.specs.declared.mark.Mark.{Mark, Mark-F, roll-Mark, fold-roll-Mark, ind-Mark}
use Rattle.mark_core.specs.Mark.{mark_of, ats_here, ats_in}
use Rattle.mark_places.specs.Candidates.{below, candidates, here, is_candidate, may_want}
use Rattle.mark_places.proofs.Covers.{candidates-made}

here-few : (known : Known) (wanted : Bool) → length (here (is_candidate known wanted)) ≤ ats_here known.bare
here-few known wanted = by_flags wanted known.range_like known.bare
  where
    by_flags : (w like bare : Bool) → length (here (w && (like && not bare))) ≤ ats_here bare
    by_flags true true true = omega arith
    by_flags true true false = omega arith
    by_flags true false bare = omega arith
    by_flags false like bare = omega arith

module _ (which : ImportRule) (table : Table) where
  abbrev Few : Mark → Type 0
  Few mark = (wanted : Bool) → length (candidates which table mark wanted) ≤ ats_in mark

  below-few : (wanted : ℕ → Bool) (from : ℕ) (held : List ((mark : Mark) × Few mark)) →
      length (below wanted from (map (candidates which table) (map (λ h. h.0) held))) ≤ sum (map ats_in (map (λ h. h.0) held))
  below-few wanted from [] = omega arith
  below-few wanted from (first ∷ held) =
      let front : List Place = map (λ (place : Place). from ∷ place) (candidates which table first.0 (wanted from)) in
      let rest : List Place = below wanted (suc from) (map (candidates which table) (map (λ h. h.0) held)) in
      let few : length (candidates which table first.0 (wanted from)) ≤ ats_in first.0 = first.1 (wanted from) in
      let same : length front ≡ length (candidates which table first.0 (wanted from)) = length-map (candidates which table first.0 (wanted from)) (λ (place : Place). from ∷ place) in
      let others : length rest ≤ sum (map ats_in (map (λ h. h.0) held)) = below-few wanted (suc from) held in
      let all : length (front ++ rest) ≡ length front + length rest = length-append front rest in
      let total : sum (map ats_in (first.0 ∷ map (λ h. h.0) held)) ≡ ats_in first.0 + sum (map ats_in (map (λ h. h.0) held)) = sum_by-cons (λ n. n) (ats_in first.0) (map ats_in (map (λ h. h.0) held)) in
      omega arith

  node-few : (known : Known) (held : List ((mark : Mark) × Few mark)) → Few (mark_of known (map (λ h. h.0) held))
  node-few known held wanted =
      let parts : List Mark = map (λ h. h.0) held in
      let front : List Place = here (is_candidate known wanted) in
      let rest : List Place = below (may_want which table known.form wanted (length parts)) 0 (map (candidates which table) parts) in
      let some : length front ≤ ats_here known.bare = here-few known wanted in
      let others : length rest ≤ sum (map ats_in parts) = below-few (may_want which table known.form wanted (length parts)) 0 held in
      let all : length (front ++ rest) ≡ length front + length rest = length-append front rest in
      let made : length (candidates which table (mark_of known parts) wanted) ≡ length (front ++ rest) = ap length (candidates-made which table known parts wanted) in
      let total : ats_in (mark_of known parts) ≡ ats_here known.bare + sum (map ats_in parts) =
      fold-roll-Mark ℕ (λ layer. ats_here layer.known.bare + sum layer.parts) (record { known = known; parts = parts }) in
      omega arith

  pub candidates-few : (mark : Mark) (wanted : Bool) → length (candidates which table mark wanted) ≤ ats_in mark
  candidates-few mark = ind-Mark Few (λ x y e. subst (λ (layer : Mark-F Mark). Few (roll-Mark layer)) e (node-few y.known y.parts)) mark
