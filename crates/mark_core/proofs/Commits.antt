-- What a drop does to the counts of a formula.
--   commit-calls  it has as many calls as before
--   commit-ats    over one node fewer an `@` stands
use Rattle.std.proofs.Common.{◌≡◌, ℕ, ◌+◌, List, [], ◌∷◌, map, Bool, true, false, not, ◌&&◌, ◌||◌, Option, Some, None, slice_get, refl, sym, ap, ◌∙◌, arith}
use Rattle.std.proofs.lemmas.Bool.{and_parts}
use Rattle.std.specs.Option.{option_map_or}
use Rattle.std.specs.Prelude.{sum, slice_set}
use Rattle.kind_table.specs.Table.{Table}
use Rattle.tree_core.specs.Place.{Place}
use Rattle.import_core.specs.declared.rule.ImportRule.{ImportRule}
use Rattle.mark_core.specs.declared.mark.Known.{Known}
use Rattle.mark_core.specs.declared.mark.Mark.{Mark, fold-roll-Mark}
use Rattle.mark_core.specs.Mark.{known_of, parts_of, mark_of, seen, calls_here, calls_in, ats_here, ats_in}
use Rattle.mark_core.specs.Drop.{bared, commit_of, over, wants_at, way_of, with_part}
use Rattle.mark_core.proofs.Counts.{calls-are, ats-are, sum-set}
use Rattle.mark_core.proofs.Probes.{commit-part, commit-nowhere}

calls-made : (known : Known) (parts : List Mark) → calls_in (mark_of known parts) ≡ calls_here known.form + sum (map calls_in parts)
calls-made known parts = fold-roll-Mark ℕ (λ layer. calls_here layer.known.form + sum layer.parts) (record { known = known; parts = parts })

ats-made : (known : Known) (parts : List Mark) → ats_in (mark_of known parts) ≡ ats_here known.bare + sum (map ats_in parts)
ats-made known parts = fold-roll-Mark ℕ (λ layer. ats_here layer.known.bare + sum layer.parts) (record { known = known; parts = parts })

ats-covered : (bare : Bool) → not bare ≡ true → ats_here bare ≡ 1
ats-covered true h = cc
ats-covered false h = refl

module _ (table : Table) where
  pub commit-calls : (place : Place) (mark : Mark) → calls_in (commit_of table mark place) ≡ calls_in mark
  commit-calls [] mark = calls-made (bared table (known_of mark)) (parts_of mark) ∙ sym (calls-are mark)
  commit-calls (i ∷ place) mark = by_part (commit-calls place) (slice_get (parts_of mark) i) refl
    where
      by_part : ((part : Mark) → calls_in (commit_of table part place) ≡ calls_in part) → (there : Option Mark) → slice_get (parts_of mark) i ≡ there
          → calls_in (commit_of table mark (i ∷ place)) ≡ calls_in mark
      by_part below None h = ap calls_in (commit-nowhere table mark i place h)
      by_part below (Some part) h =
          let new = commit_of table part place in
          let made : calls_in (over table mark i part new) ≡ calls_here (known_of mark).form + sum (map calls_in (slice_set (parts_of mark) i new)) =
          calls-made (with_part table (known_of mark) i (seen (known_of part)) (seen (known_of new))) (slice_set (parts_of mark) i new) in
          let same : calls_in new ≡ calls_in part = below part in
          let moved : sum (map calls_in (slice_set (parts_of mark) i new)) + calls_in part ≡ sum (map calls_in (parts_of mark)) + calls_in new = sum-set calls_in (parts_of mark) i part new h in
          let all : calls_in mark ≡ calls_here (known_of mark).form + sum (map calls_in (parts_of mark)) = calls-are mark in
          let now : calls_in (over table mark i part new) ≡ calls_in mark = omega arith in
          ap calls_in (commit-part table mark part i place h) ∙ now

  pub commit-ats : (which : ImportRule) (place : Place) (wanted : Bool) (mark : Mark) → way_of which table wanted mark place ≡ true → ats_in (commit_of table mark place) + 1 ≡ ats_in mark
  commit-ats which [] wanted mark way =
      let made : ats_in (commit_of table mark []) ≡ 0 + sum (map ats_in (parts_of mark)) = ats-made (bared table (known_of mark)) (parts_of mark) in
      let all : ats_in mark ≡ ats_here (known_of mark).bare + sum (map ats_in (parts_of mark)) = ats-are mark in
      let here : ats_here (known_of mark).bare ≡ 1 = ats-covered (known_of mark).bare way in
      omega arith
  commit-ats which (i ∷ place) wanted mark way = by_part (λ part. commit-ats which place (wants_at which table wanted mark i (known_of part).shape) part) (slice_get (parts_of mark) i) refl
    where
      below : Option Mark → Bool
      below there = option_map_or (λ part. way_of which table (wants_at which table wanted mark i (known_of part).shape) part place) there false

      further : below (slice_get (parts_of mark) i) ≡ true
      further = (and_parts ((known_of mark).bare || (wanted && (known_of mark).range_like)) (below (slice_get (parts_of mark) i)) way).1

      by_part : ((part : Mark) → way_of which table (wants_at which table wanted mark i (known_of part).shape) part place ≡ true → ats_in (commit_of table part place) + 1 ≡ ats_in part)
          → (there : Option Mark) → slice_get (parts_of mark) i ≡ there → ats_in (commit_of table mark (i ∷ place)) + 1 ≡ ats_in mark
      by_part fewer_below None h = absurd (none_true (sym (ap below h) ∙ further))
        where
          none_true : false ≡ true → ⊥
          none_true e = cc
      by_part fewer_below (Some part) h =
          let new = commit_of table part place in
          let made : ats_in (over table mark i part new) ≡ ats_here (known_of mark).bare + sum (map ats_in (slice_set (parts_of mark) i new)) =
          ats-made (with_part table (known_of mark) i (seen (known_of part)) (seen (known_of new))) (slice_set (parts_of mark) i new) in
          let fewer : ats_in new + 1 ≡ ats_in part = fewer_below part (sym (ap below h) ∙ further) in
          let moved : sum (map ats_in (slice_set (parts_of mark) i new)) + ats_in part ≡ sum (map ats_in (parts_of mark)) + ats_in new = sum-set ats_in (parts_of mark) i part new h in
          let all : ats_in mark ≡ ats_here (known_of mark).bare + sum (map ats_in (parts_of mark)) = ats-are mark in
          let now : ats_in (over table mark i part new) + 1 ≡ ats_in mark = omega arith in
          ap (λ m. ats_in m + 1) (commit-part table mark part i place h) ∙ now
