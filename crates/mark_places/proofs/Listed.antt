-- The places of parts, one after the other.
--   listed     the places of a node, and of so many of its parts
--   first-none, first-one   of none of them, by whether the node is a candidate
--   listed-more  of one more
--   listed-step  so in the whole list; shortened, the path as it was
--   listed-end   of all of them
--   from-start   the whole list, from an empty path
use Rattle.std.proofs.Common.{◌≡◌, ℕ, suc, ◌+◌, ◌<◌, ◌≤◌, Bool, true, false, List, [], ◌∷◌, ◌++◌, map, length, take, get_or, refl, ap, ap₂, subst, sym, ◌∙◌, arith, append-nil}
use Rattle.std.proofs.Math.Seq.{take-append_seam, take-suc}
use Rattle.std.proofs.lemmas.List.{append_assoc, length-map, length-take-le, map-append, take_all}
use Rattle.kind_table.specs.Table.{Table}
use Rattle.tree_core.specs.Place.{Place}
use Rattle.import_core.specs.declared.rule.ImportRule.{ImportRule}
use Rattle.mark_core.specs.declared.mark.Mark.{Mark, fold_out-Mark}
use Rattle.mark_core.specs.Mark.{known_of, parts_of}
use Rattle.mark_places.specs.Candidates.{below, candidates, here, is_candidate, may_want}

abbrev pub wants : ImportRule → Table → Mark → Bool → ℕ → Bool
wants which table mark wanted i = may_want which table (known_of mark).form wanted (length (parts_of mark)) i

abbrev pub listed : ImportRule → Table → Mark → Bool → ℕ → List Place
listed which table mark wanted count = here (is_candidate (known_of mark) wanted) ++ below (wants which table mark wanted) 0 (map (candidates which table) (take count (parts_of mark)))

below-more : (wanted : ℕ → Bool) (i : ℕ) (parts : List (Bool → List Place)) (part : Bool → List Place) →
    below wanted i (parts ++ part ∷ []) ≡ below wanted i parts ++ map (λ place. (i + length parts) ∷ place) (part (wanted (i + length parts)))
below-more wanted i [] part = append-nil _ ∙ ap (λ n. map (λ (place : Place). n ∷ place) (part (wanted n))) (let e : i ≡ i + 0 = omega arith in e)
below-more wanted i (first ∷ parts) part =
    ap (λ rest. map (λ place. i ∷ place) (first (wanted i)) ++ rest) (below-more wanted (suc i) parts part)
    ∙ sym (append_assoc (map (λ place. i ∷ place) (first (wanted i))) (below wanted (suc i) parts) (map (λ (place : Place). (suc i + length parts) ∷ place) (part (wanted (suc i + length parts)))))
    ∙ ap (λ n. map (λ place. i ∷ place) (first (wanted i)) ++ below wanted (suc i) parts ++ map (λ (place : Place). n ∷ place) (part (wanted n))) (let e : suc i + length parts ≡ i + suc (length parts) = omega arith in e)

module _ (which : ImportRule) (table : Table) (mark : Mark) (wanted : Bool) where
  abbrev over : List Mark → List (Bool → List Place)
  over = map (candidates which table)

  abbrev behind : List (Bool → List Place) → List Place
  behind parts = here (is_candidate (known_of mark) wanted) ++ below (wants which table mark wanted) 0 parts

  so_many : (i : ℕ) → i < length (parts_of mark) → 0 + length (over (take i (parts_of mark))) ≡ i
  so_many i h =
      let mapped = length-map (take i (parts_of mark)) (candidates which table) in
      let taken = length-take-le i (parts_of mark) (omega (arith, h)) in omega (arith, mapped, taken)

  pub listed-more : (i : ℕ) (part : Mark) → i < length (parts_of mark) → part ≡ get_or (parts_of mark) i part →
      listed which table mark wanted (suc i) ≡ listed which table mark wanted i ++ map (λ place. i ∷ place) (candidates which table part (wants which table mark wanted i))
  listed-more i part h e =
      let parts = over (take i (parts_of mark)) in
      ap (λ ps. behind (over ps)) (take-suc (parts_of mark) i part h ∙ ap (λ p. take i (parts_of mark) ++ p ∷ []) (sym e))
      ∙ ap behind (map-append (candidates which table) (take i (parts_of mark)) (part ∷ []))
      ∙ ap (λ ps. here (is_candidate (known_of mark) wanted) ++ ps) (below-more (wants which table mark wanted) 0 parts (candidates which table part))
      ∙ sym (append_assoc (here (is_candidate (known_of mark) wanted)) (below (wants which table mark wanted) 0 parts) _)
      ∙ ap (λ n. behind parts ++ map (λ (place : Place). n ∷ place) (candidates which table part (wants which table mark wanted n))) (so_many i h)

  listed-all : (i : ℕ) → length (parts_of mark) ≤ i → candidates which table mark wanted ≡ listed which table mark wanted i
  listed-all i e =
      ap (λ f. f wanted) (fold_out-Mark (Bool → List Place)
      (λ layer wanted. here (is_candidate layer.known wanted) ++ below (may_want which table layer.known.form wanted (length layer.parts)) 0 layer.parts) mark)
      ∙ ap (λ n. here (is_candidate (known_of mark) wanted) ++ below (may_want which table (known_of mark).form wanted n) 0 (over (parts_of mark))) (length-map (parts_of mark) (candidates which table))
      ∙ ap (λ ps. behind (over ps)) (sym (take_all i (parts_of mark) e))

  pub listed-end : (items : List Mark) (i : ℕ) → items ≡ parts_of mark → length items ≤ i → listed which table mark wanted i ≡ candidates which table mark wanted
  listed-end items i same e = sym (listed-all i (subst (λ (ps : List Mark). length ps ≤ i) same e))

  prefixed : (path : List ℕ) (i : ℕ) (places : List Place) → map (λ place. path ++ place) (map (λ place. i ∷ place) places) ≡ map (λ place. (path ++ i ∷ []) ++ place) places
  prefixed path i [] = refl
  prefixed path i (place ∷ places) = ap₂ (λ p ps. p ∷ ps) (sym (append_assoc path (i ∷ []) place)) (prefixed path i places)

  pub first-none : (path : List ℕ) (places : List Place) → is_candidate (known_of mark) wanted ≡ false → places ≡ places ++ map (λ place. path ++ place) (listed which table mark wanted 0)
  first-none path places e = sym (append-nil places) ∙ ap (λ c. places ++ map (λ place. path ++ place) (here c ++ [])) (sym e)

  pub first-one : (path place : List ℕ) (places : List Place) → is_candidate (known_of mark) wanted ≡ true → place ≡ path → places ++ place ∷ [] ≡ places ++ map (λ p. path ++ p) (listed which table mark wanted 0)
  first-one path place places e p = ap (λ q. places ++ q ∷ []) (p ∙ sym (append-nil path)) ∙ ap (λ c. places ++ map (λ place. path ++ place) (here c ++ [])) (sym e)

  pub shortened : (path longer shorter : List ℕ) (i depth : ℕ) → longer ≡ path ++ i ∷ [] → depth ≡ length path → shorter ≡ take depth longer → shorter ≡ path
  shortened path longer shorter i depth l d s = s ∙ ap₂ (λ n p. take n p) d l ∙ take-append_seam path (i ∷ [])

  pub listed-step : (items : List Mark) (count i : ℕ) (part : Mark) (path longer : List ℕ) (old before now : List Place) (next : Bool) → items ≡ parts_of mark → count ≡ length (parts_of mark)
      → i < length items → part ≡ get_or items i part
      → before ≡ old ++ map (λ place. path ++ place) (listed which table mark wanted i) → longer ≡ path ++ i ∷ [] → next ≡ may_want which table (known_of mark).form wanted count i
      → now ≡ before ++ map (λ place. longer ++ place) (candidates which table part next) → now ≡ old ++ map (λ place. path ++ place) (listed which table mark wanted (i + 1))
  listed-step items count i part path longer old before now next same counted h e known lengthened is added =
      let found = candidates which table part (wants which table mark wanted i) in
      let front = old ++ map (λ place. path ++ place) (listed which table mark wanted i) in
      added
      ∙ ap (λ b. b ++ map (λ place. longer ++ place) (candidates which table part next)) known
      ∙ ap (λ p. front ++ map (λ place. p ++ place) (candidates which table part next)) lengthened
      ∙ ap (λ n. front ++ map (λ place. (path ++ i ∷ []) ++ place) (candidates which table part n)) (is ∙ ap (λ n. may_want which table (known_of mark).form wanted n i) counted)
      ∙ ap (λ ps. front ++ ps) (sym (prefixed path i found))
      ∙ append_assoc old (map (λ place. path ++ place) (listed which table mark wanted i)) _
      ∙ ap (λ ps. old ++ ps) (sym (map-append (λ (place : Place). path ++ place) (listed which table mark wanted i) (map (λ place. i ∷ place) found)))
      ∙ ap (λ ps. old ++ map (λ place. path ++ place) ps)
      (sym (listed-more i part (subst (λ (ps : List Mark). i < length ps) same h) (subst (λ (ps : List Mark). part ≡ get_or ps i part) same e)))
      ∙ ap (λ n. old ++ map (λ place. path ++ place) (listed which table mark wanted n)) (let e : suc i ≡ i + 1 = omega arith in e)

unprefixed : (places : List Place) → map (λ (place : Place). [] ++ place) places ≡ places
unprefixed [] = refl
unprefixed (place ∷ places) = ap (λ ps. place ∷ ps) (unprefixed places)

pub from-start : (path : List ℕ) (start found places : List Place) → path ≡ [] → start ≡ [] → found ≡ start ++ map (λ place. path ++ place) places → found ≡ places
from-start path start found places p s e = e ∙ ap₂ (λ xs ys. xs ++ map (λ (place : Place). ys ++ place) places) s p ∙ unprefixed places
