-- The candidates are all that can go.
--   Among          a place is in a list
--   can-listed     an `@` that can go is a candidate
--   fewer          after a drop there are no others
--   follows-fewer  nor after some drops
--   settled-all    so where none of the candidates can go, none at all can
use Rattle.std.proofs.Common.{◌≡◌, ℕ, zero, suc, ◌+◌, Bool, true, false, not, ◌&&◌, ◌||◌, List, [], ◌∷◌, ◌++◌, length, map, slice_get, Option, Some, None, ◌⊎◌, inl, inr, ⊎_elim, refl, sym, ap, ◌∙◌, subst, arith}
use Rattle.std.proofs.lemmas.Bool.{and_parts, and_from}
use Rattle.std.proofs.lemmas.List.{length-map, length-set}
use Rattle.std.specs.Prelude.{slice_set}
use Rattle.std.specs.Option.{option_map_or}
use Rattle.kind_table.specs.declared.static_result.StaticResult.{StaticResult}
use Rattle.kind_table.specs.declared.static_result.StaticResult.TheVariants.{Unknown}
use Rattle.kind_table.specs.Table.{Table}
use Rattle.tree_core.specs.Place.{Place}
use Rattle.import_core.specs.After.{is_scalar, is_wanted_of, is_large, signature_of, takes_every}
use Rattle.import_core.specs.declared.rule.ImportRule.{ImportRule}
use Rattle.export_marks.specs.Trial.{allows}
use Rattle.mark_core.specs.declared.mark.Form.{Form}
use Rattle.mark_core.specs.declared.mark.Form.TheVariants.{Whole, Passing, Spill, Call}
use Rattle.mark_core.specs.declared.mark.Known.{Known}
use Rattle.mark_core.specs.declared.mark.Mark.{Mark, fold_out-Mark, fold-roll-Mark}
use Rattle.mark_core.specs.Mark.{known_of, parts_of, mark_of, seen}
use Rattle.mark_core.specs.Drop.{bared, can_drop, commit_of, fits_of, over, wants_at, wants_part, way_of, with_part}
use Rattle.mark_core.specs.Sweep.{Follows, IsSettled}
use Rattle.mark_places.specs.Candidates.{below, candidates, here, is_candidate, may_want}

-- ---- lists of places

abbrev pub Among : List Place → Place → Type 0
Among [] place = ⊥
Among (other ∷ places) place = (other ≡ place) ⊎ Among places place

in-front : (xs ys : List Place) (place : Place) → Among xs place → Among (xs ++ ys) place
in-front [] ys place h = absurd h
in-front (x ∷ xs) ys place h = ⊎_elim (λ e. inl e) (λ further. inr (in-front xs ys place further)) h

behind : (xs ys : List Place) (place : Place) → Among ys place → Among (xs ++ ys) place
behind [] ys place h = h
behind (x ∷ xs) ys place h = inr (behind xs ys place h)

split : (xs ys : List Place) (place : Place) → Among (xs ++ ys) place → Among xs place ⊎ Among ys place
split [] ys place h = inr h
split (x ∷ xs) ys place h = ⊎_elim (λ e. inl (inl e)) (λ further. ⊎_elim (λ a. inl (inr a)) (λ b. inr b) (split xs ys place further)) h

mapped : (f : Place → Place) (xs : List Place) (place : Place) → Among xs place → Among (map f xs) (f place)
mapped f [] place h = absurd h
mapped f (x ∷ xs) place h = ⊎_elim (λ e. inl (ap f e)) (λ further. inr (mapped f xs place further)) h

unmapped : (f : Place → Place) (xs : List Place) (place : Place) → Among (map f xs) place → (p : Place) × (Among xs p × (f p ≡ place))
unmapped f [] place h = absurd h
unmapped f (x ∷ xs) place h = ⊎_elim (λ e. (x, (inl refl, e))) (λ further. (let found = unmapped f xs place further in (found.0, (inr found.1.0, found.1.1)))) h

pub listed-at : (xs : List Place) (place : Place) → Among xs place → (k : ℕ) × (slice_get xs k ≡ Some place)
listed-at [] place h = absurd h
listed-at (x ∷ xs) place h = ⊎_elim (λ e. (zero, ap Some e)) (λ further. (let found = listed-at xs place further in (suc found.0, found.1))) h

here-found : (found : Bool) → found ≡ true → Among (here found) []
here-found true h = inl refl
here-found false h = cc

here-is : (found : Bool) (place : Place) → Among (here found) place → found ≡ true
here-is true place h = refl
here-is false place h = absurd h

-- ---- candidates, by the parts

module _ (which : ImportRule) (table : Table) where
  commit-by : (mark : Mark) (i : ℕ) (place : Place) (there : Option Mark) → slice_get (parts_of mark) i ≡ there
      → commit_of table mark (i ∷ place) ≡ option_map_or (λ part. over table mark i part (commit_of table part place)) there mark
  commit-by mark i place there h = ap (λ there. option_map_or (λ part. over table mark i part (commit_of table part place)) there mark) h

  abbrev by_parts : Known → Bool → List Mark → List Place
  by_parts known wanted parts = here (is_candidate known wanted) ++ below (may_want which table known.form wanted (length parts)) 0 (map (candidates which table) parts)

  pub candidates-are : (mark : Mark) (wanted : Bool) → candidates which table mark wanted ≡ by_parts (known_of mark) wanted (parts_of mark)
  candidates-are mark wanted =
      ap (λ f. f wanted) (fold_out-Mark (Bool → List Place) (λ layer wanted. here (is_candidate layer.known wanted) ++ below (may_want which table layer.known.form wanted (length layer.parts)) 0 layer.parts) mark)
      ∙ ap (λ n. here (is_candidate (known_of mark) wanted) ++ below (may_want which table (known_of mark).form wanted n) 0 (map (candidates which table) (parts_of mark)))
      (length-map (parts_of mark) (candidates which table))

  pub candidates-made : (known : Known) (parts : List Mark) (wanted : Bool) → candidates which table (mark_of known parts) wanted ≡ by_parts known wanted parts
  candidates-made known parts wanted =
      ap (λ f. f wanted) (fold-roll-Mark (Bool → List Place) (λ layer wanted. here (is_candidate layer.known wanted) ++ below (may_want which table layer.known.form wanted (length layer.parts)) 0 layer.parts)
      (record { known = known; parts = parts }))
      ∙ ap (λ n. here (is_candidate known wanted) ++ below (may_want which table known.form wanted n) 0 (map (candidates which table) parts)) (length-map parts (candidates which table))

  below-part : (wanted : ℕ → Bool) (from at : ℕ) (parts : List Mark) (i : ℕ) (part : Mark) (place : Place) → at ≡ from + i → slice_get parts i ≡ Some part
      → Among (candidates which table part (wanted at)) place → Among (below wanted from (map (candidates which table) parts)) (at ∷ place)
  below-part wanted from at [] i part place e h among = cc
  below-part wanted from at (first ∷ parts) zero part place e h among =
      let same : from ≡ at = omega arith in
      let is : first ≡ part = some_same h in
      in-front (map (λ p. from ∷ p) (candidates which table first (wanted from))) (below wanted (suc from) (map (candidates which table) parts)) (at ∷ place)
      (subst (λ n. Among (map (λ p. n ∷ p) (candidates which table first (wanted n))) (at ∷ place)) (sym same)
      (mapped (λ p. at ∷ p) (candidates which table first (wanted at)) place (subst (λ m. Among (candidates which table m (wanted at)) place) (sym is) among)))
    where
      some_same : {a b : Mark} → Some a ≡ Some b → a ≡ b
      some_same g = cc
  below-part wanted from at (first ∷ parts) (suc i) part place e h among =
      behind (map (λ p. from ∷ p) (candidates which table first (wanted from))) (below wanted (suc from) (map (candidates which table) parts)) (at ∷ place)
      (below-part wanted (suc from) at parts i part place (omega arith) h among)

  below-set : (wanted : ℕ → Bool) (from : ℕ) (parts : List Mark) (i : ℕ) (part new : Mark) (place : Place) → slice_get parts i ≡ Some part
      → ((v : Bool) (p : Place) → Among (candidates which table new v) p → Among (candidates which table part v) p)
      → Among (below wanted from (map (candidates which table) (slice_set parts i new))) place → Among (below wanted from (map (candidates which table) parts)) place
  below-set wanted from [] i part new place h sub among = cc
  below-set wanted from (first ∷ parts) zero part new place h sub among =
      let rest = below wanted (suc from) (map (candidates which table) parts) in
      let is : part ≡ first = some_same h in
      ⊎_elim
      (λ front. (let found = unmapped (λ p. from ∷ p) (candidates which table new (wanted from)) place front in
      in-front (map (λ p. from ∷ p) (candidates which table first (wanted from))) rest place
      (subst (Among (map (λ p. from ∷ p) (candidates which table first (wanted from)))) found.1.1
      (mapped (λ p. from ∷ p) (candidates which table first (wanted from)) found.0 (subst (λ m. Among (candidates which table m (wanted from)) found.0) is (sub (wanted from) found.0 found.1.0))))))
      (λ further. behind (map (λ p. from ∷ p) (candidates which table first (wanted from))) rest place further)
      (split (map (λ p. from ∷ p) (candidates which table new (wanted from))) rest place among)
    where
      some_same : {a b : Mark} → Some b ≡ Some a → a ≡ b
      some_same g = cc
  below-set wanted from (first ∷ parts) (suc i) part new place h sub among =
      let front = map (λ (p : Place). from ∷ p) (candidates which table first (wanted from)) in
      ⊎_elim (λ a. in-front front (below wanted (suc from) (map (candidates which table) parts)) place a)
      (λ further. behind front (below wanted (suc from) (map (candidates which table) parts)) place (below-set wanted (suc from) parts i part new place h sub further))
      (split front (below wanted (suc from) (map (candidates which table) (slice_set parts i new))) place among)

  -- ---- what can go is a candidate

  or_more : (b c : Bool) → (b || c) ≡ true → (b || true) ≡ true
  or_more true c h = refl
  or_more false c h = refl

  wants-may : (form : Form) (w v : Bool) (count i : ℕ) (shape : StaticResult) → (w ≡ true → v ≡ true) → wants_part which table form w count i shape ≡ true → may_want which table form v count i ≡ true
  wants-may (Whole whole) w v count i shape f h = cc
  wants-may Passing w v count i shape f h = f h
  wants-may Spill w v count i shape f h = f h
  wants-may (Call kind) w v count i shape f h =
      let both = and_parts (is_scalar (signature_of table kind count i)) (is_wanted_of which kind shape) h in
      and_from (is_scalar (signature_of table kind count i)) (is_wanted_of which kind Unknown) both.0 (or_more (takes_every which kind) (is_large shape) both.1)

  pub can-listed : (place : Place) (x w v : Bool) (mark : Mark) → (w ≡ true → v ≡ true) → way_of which table x mark place ≡ true → fits_of which table w mark place ≡ true
      → Among (candidates which table mark v) place
  can-listed [] x w v mark f way fits =
      let both = and_parts w (known_of mark).range_like fits in
      subst (λ ps. Among ps []) (sym (candidates-are mark v))
      (in-front (here (is_candidate (known_of mark) v)) (below (may_want which table (known_of mark).form v (length (parts_of mark))) 0 (map (candidates which table) (parts_of mark))) []
      (here-found (is_candidate (known_of mark) v) (and_from v ((known_of mark).range_like && not (known_of mark).bare) (f both.0) (and_from (known_of mark).range_like (not (known_of mark).bare) both.1 way))))
  can-listed (i ∷ place) x w v mark f way fits =
      by_part (λ part. can-listed place (wants_at which table x mark i (known_of part).shape) (wants_at which table w mark i (known_of (commit_of table part place)).shape)
      (may_want which table (known_of mark).form v (length (parts_of mark)) i) part) (slice_get (parts_of mark) i) refl
    where
      way_on : Option Mark → Bool
      way_on there = option_map_or (λ part. way_of which table (wants_at which table x mark i (known_of part).shape) part place) there false

      fits_on : Option Mark → Bool
      fits_on there = option_map_or (λ part. allows
          (wants_at which table w mark i (known_of part).shape)
          (wants_at which table w mark i (known_of (commit_of table part place)).shape)
          (known_of part).settles
          && fits_of which table (wants_at which table w mark i (known_of (commit_of table part place)).shape) part place) there false

      way_there : way_on (slice_get (parts_of mark) i) ≡ true
      way_there = (and_parts ((known_of mark).bare || (x && (known_of mark).range_like)) (way_on (slice_get (parts_of mark) i)) way).1

      by_part : ((part : Mark) → (wants_at which table w mark i (known_of (commit_of table part place)).shape ≡ true → may_want which table (known_of mark).form v (length (parts_of mark)) i ≡ true)
          → way_of which table (wants_at which table x mark i (known_of part).shape) part place ≡ true
          → fits_of which table (wants_at which table w mark i (known_of (commit_of table part place)).shape) part place ≡ true
          → Among (candidates which table part (may_want which table (known_of mark).form v (length (parts_of mark)) i)) place)
          → (there : Option Mark) → slice_get (parts_of mark) i ≡ there → Among (candidates which table mark v) (i ∷ place)
      by_part again None h = absurd (never (sym (ap fits_on h) ∙ fits))
        where
          never : false ≡ true → ⊥
          never e = cc
      by_part again (Some part) h =
          let next = wants_at which table w mark i (known_of (commit_of table part place)).shape in
          let both = and_parts (allows (wants_at which table w mark i (known_of part).shape) next (known_of part).settles) (fits_of which table next part place) (sym (ap fits_on h) ∙ fits) in
          let below_it = again part (wants-may (known_of mark).form w v (length (parts_of mark)) i (known_of (commit_of table part place)).shape f) (sym (ap way_on h) ∙ way_there) both.1 in
          subst (λ ps. Among ps (i ∷ place)) (sym (candidates-are mark v))
          (behind (here (is_candidate (known_of mark) v)) (below (may_want which table (known_of mark).form v (length (parts_of mark))) 0 (map (candidates which table) (parts_of mark))) (i ∷ place)
          (below-part (may_want which table (known_of mark).form v (length (parts_of mark))) 0 i (parts_of mark) i part place (omega arith) h below_it))

  -- ---- a drop

  pub fewer : (place : Place) (mark : Mark) (v : Bool) (other : Place) → Among (candidates which table (commit_of table mark place) v) other → Among (candidates which table mark v) other
  fewer [] mark v other among =
      let made = subst (λ ps. Among ps other) (candidates-made (bared table (known_of mark)) (parts_of mark) v) among in
      let rest = below (may_want which table (known_of mark).form v (length (parts_of mark))) 0 (map (candidates which table) (parts_of mark)) in
      subst (λ ps. Among ps other) (sym (candidates-are mark v))
      (behind (here (is_candidate (known_of mark) v)) rest other
      (⊎_elim (λ a. absurd (no_candidate v (known_of mark).range_like (here-is (v && ((known_of mark).range_like && false)) other a))) (λ b. b)
      (split (here (v && ((known_of mark).range_like && false))) rest other made)))
    where
      no_candidate : (a b : Bool) → (a && (b && false)) ≡ true → ⊥
      no_candidate true true e = cc
      no_candidate true false e = cc
      no_candidate false b e = cc
  fewer (i ∷ place) mark v other among = by_part (λ part. fewer place part) (slice_get (parts_of mark) i) refl
    where
      by_part : ((part : Mark) (u : Bool) (p : Place) → Among (candidates which table (commit_of table part place) u) p → Among (candidates which table part u) p)
          → (there : Option Mark) → slice_get (parts_of mark) i ≡ there → Among (candidates which table mark v) other
      by_part again None h = subst (λ m. Among (candidates which table m v) other) (commit-by mark i place None h) among
      by_part again (Some part) h =
          let new = commit_of table part place in
          let known = with_part table (known_of mark) i (seen (known_of part)) (seen (known_of new)) in
          let moved = subst (λ m. Among (candidates which table m v) other) (commit-by mark i place (Some part) h) among in
          let made = subst (λ ps. Among ps other) (candidates-made known (slice_set (parts_of mark) i new) v) moved in
          let same : length (slice_set (parts_of mark) i new) ≡ length (parts_of mark) = length-set (parts_of mark) i new in
          let wants = may_want which table (known_of mark).form v (length (parts_of mark)) in
          let told = subst (λ n. Among (here (is_candidate (known_of mark) v) ++ below (may_want which table (known_of mark).form v n) 0 (map (candidates which table) (slice_set (parts_of mark) i new))) other) same made in
          subst (λ ps. Among ps other) (sym (candidates-are mark v))
          (⊎_elim (λ a. in-front (here (is_candidate (known_of mark) v)) (below wants 0 (map (candidates which table) (parts_of mark))) other a)
          (λ b. behind (here (is_candidate (known_of mark) v)) (below wants 0 (map (candidates which table) (parts_of mark))) other (below-set wants 0 (parts_of mark) i part new other h (again part) b))
          (split (here (is_candidate (known_of mark) v)) (below wants 0 (map (candidates which table) (slice_set (parts_of mark) i new))) other told))

  pub follows-fewer : (done : List Place) (w v : Bool) (old new : Mark) (other : Place) → Follows which table w old new done → Among (candidates which table new v) other → Among (candidates which table old v) other
  follows-fewer [] w v old new other h among = subst (λ m. Among (candidates which table m v) other) h among
  follows-fewer (place ∷ done) w v old new other h among = fewer place old v other (follows-fewer done w v (commit_of table old place) new other h.1 among)

  not_true : (b : Bool) → (b ≡ true → b ≡ false) → b ≡ false
  not_true true f = f refl
  not_true false f = refl

  pub settled-all : (wanted : Bool) (old new : Mark) → IsSettled which table wanted old new (candidates which table old wanted) → (place : Place) → can_drop which table wanted new place ≡ false
  settled-all wanted old new settled place = not_true (can_drop which table wanted new place) (λ can.
      let both = and_parts (way_of which table wanted new place) (fits_of which table wanted new place) can in
      let listed = listed-at (candidates which table old wanted) place
      (follows-fewer settled.done wanted wanted old new place settled.follows (can-listed place wanted wanted wanted new (λ e. e) both.0 both.1)) in
      settled.none_can listed.0 place listed.1)
