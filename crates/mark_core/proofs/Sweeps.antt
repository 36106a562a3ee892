-- What is known after one more place.
--   follows-all           drops leave the calls, and fewer `@`s by their number
--   follows-more          one more drop
--   sweep_begins, sweep_on  before the first place, and after one more
--   sweep_fewer           a sweep that drops leaves fewer `@`s
--   sweep_settles         the last sweep
--   trial_paid, sweep_paid, sweeps_paid, last_paid  the questions of a trial, of a sweep, and of all sweeps
use Rattle.std.proofs.Common.{◌≡◌, ℕ, zero, suc, ◌+◌, ◌*◌, ◌<◌, ◌≤◌, Bool, true, false, ◌||◌, if◌then◌else◌, List, [], ◌∷◌, ◌++◌, length, slice_get, Some, ◌⊎◌, inl, inr, ⊎_elim, refl, sym, ap, ◌∙◌, subst, arith}
use Rattle.std.specs.Prelude.{nat_lt}
use Rattle.std.proofs.lemmas.Bool.{and_parts}
use Rattle.std.proofs.lemmas.Bool.Decides.{nat_tests}
use Rattle.std.proofs.Math.Nat.{add-mul, mul-add, mul_assoc, mul-le-mul_right}
use Rattle.kind_table.specs.Table.{Table}
use Rattle.tree_core.specs.Place.{Place}
use Rattle.import_core.specs.declared.rule.ImportRule.{ImportRule}
use Rattle.mark_core.specs.declared.mark.Mark.{Mark}
use Rattle.mark_core.specs.Mark.{calls_in, ats_in}
use Rattle.mark_core.specs.Drop.{can_drop, commit_of, fits_of, way_of}
use Rattle.mark_core.specs.Sweep.{Follows, IsSweep, IsSettled}
use Rattle.mark_core.proofs.Commits.{commit-calls, commit-ats}

last_or : (k n : ℕ) → k < n + 1 → (k < n) ⊎ (k ≡ n)
last_or zero zero h = inr refl
last_or zero (suc n) h = inl (omega arith)
last_or (suc k) zero h = absurd (omega arith)
last_or (suc k) (suc n) h = ⊎_elim (λ less. inl (omega arith)) (λ same. inr (ap suc same)) (last_or k n (omega arith))

module _ (which : ImportRule) (table : Table) (wanted : Bool) where
  drop-ats : (mark : Mark) (place : Place) → can_drop which table wanted mark place ≡ true → ats_in (commit_of table mark place) + 1 ≡ ats_in mark
  drop-ats mark place can = commit-ats table which place wanted mark (and_parts (way_of which table wanted mark place) (fits_of which table wanted mark place) can).0

  pub follows-calls : (done : List Place) (old new : Mark) → Follows which table wanted old new done → calls_in new ≡ calls_in old
  follows-calls [] old new h = ap calls_in h
  follows-calls (place ∷ done) old new h = follows-calls done (commit_of table old place) new h.1 ∙ commit-calls table place old

  pub follows-ats : (done : List Place) (old new : Mark) → Follows which table wanted old new done → ats_in new + length done ≡ ats_in old
  follows-ats [] old new h = let same : ats_in new ≡ ats_in old = ap ats_in h in omega arith
  follows-ats (place ∷ done) old new h =
      let rest : ats_in new + length done ≡ ats_in (commit_of table old place) = follows-ats done (commit_of table old place) new h.1 in
      let first : ats_in (commit_of table old place) + 1 ≡ ats_in old = drop-ats old place h.0 in
      omega arith

  pub follows-more : (done : List Place) (old new : Mark) (place : Place) → Follows which table wanted old new done → can_drop which table wanted new place ≡ true
      → Follows which table wanted old (commit_of table new place) (done ++ place ∷ [])
  follows-more [] old new place h can = (ap (λ m. can_drop which table wanted m place) (sym h) ∙ can, ap (λ m. commit_of table m place) h)
  follows-more (first ∷ done) old new place h can = (h.0, follows-more done (commit_of table old first) new place h.1 can)

  pub follows-both : (done after : List Place) (old new newer : Mark) → Follows which table wanted old new done → Follows which table wanted new newer after
      → Follows which table wanted old newer (done ++ after)
  follows-both [] after old new newer h then_on = subst (λ m. Follows which table wanted m newer after) h then_on
  follows-both (first ∷ done) after old new newer h then_on = (h.0, follows-both done after (commit_of table old first) new newer h.1 then_on)

  pub sweep_begins : (mark : Mark) (places : List Place) → IsSweep which table wanted mark mark places 0 false
  sweep_begins mark places = record { done = []; follows = refl; told = refl; none_can = λ low k place less is. absurd (omega arith) }

  some_done : (done : List Place) (place : Place) → nat_lt 0 (length (done ++ place ∷ [])) ≡ true
  some_done [] place = refl
  some_done (first ∷ done) place = grind (arith, nat_tests)

  some_same : {a b : Place} → Some a ≡ Some b → a ≡ b
  some_same e = cc

  or_false : (b : Bool) → (b || false) ≡ b
  or_false true = refl
  or_false false = refl

  or_true : (b : Bool) → (b || true) ≡ true
  or_true true = refl
  or_true false = refl

  pub sweep_on : (old new newer : Mark) (places : List Place) (count : ℕ) (dropped went : Bool) (place : Place) → IsSweep which table wanted old new places count dropped
      → slice_get places count ≡ Some place → went ≡ can_drop which table wanted new place → newer ≡ (if went then commit_of table new place else new)
      → IsSweep which table wanted old newer places (count + 1) (dropped || went)
  sweep_on old new newer places count dropped true place h here can is = record {
    done = h.done ++ place ∷ [];
    follows = subst (λ m. Follows which table wanted old m (h.done ++ place ∷ [])) (sym is) (follows-more h.done old new place h.follows (sym can));
    told = or_true dropped ∙ sym (some_done h.done place);
    none_can = λ low. absurd (never (sym (or_true dropped) ∙ low));
  }
    where
      never : true ≡ false → ⊥
      never e = cc
  sweep_on old new newer places count dropped false place h here can is = record {
    done = h.done;
    follows = subst (λ m. Follows which table wanted old m h.done) (sym is) h.follows;
    told = or_false dropped ∙ h.told;
    none_can = λ low k other less at.
        ap (λ m. can_drop which table wanted m other) is
        ∙ ⊎_elim (λ earlier. h.none_can (sym (or_false dropped) ∙ low) k other earlier at)
        (λ last. ap (can_drop which table wanted new) (some_same (sym at ∙ ap (slice_get places) last ∙ here)) ∙ sym can)
        (last_or k count less);
  }

  -- ---- counted

  pub trial_paid : (old new : Mark) (place : Place) (went : Bool) (before after : ℕ) → went ≡ can_drop which table wanted old place → new ≡ (if went then commit_of table old place else old)
      → after ≤ before + (if went then 2 else 1) * calls_in old → after + ats_in new * calls_in old ≤ before + ats_in old * calls_in old + calls_in old
  trial_paid old new place true before after can is counted =
      let fewer : ats_in (commit_of table old place) + 1 ≡ ats_in old = drop-ats old place (sym can) in
      let now : ats_in new ≡ ats_in (commit_of table old place) = ap ats_in is in
      let all : (ats_in new + 1) * calls_in old ≡ ats_in new * calls_in old + 1 * calls_in old = add-mul (ats_in new) 1 (calls_in old) in
      let same : (ats_in new + 1) * calls_in old ≡ ats_in old * calls_in old = ap (λ n. n * calls_in old) (ap (λ n. n + 1) now ∙ fewer) in
      omega arith
  trial_paid old new place false before after can is counted =
      let same : ats_in new * calls_in old ≡ ats_in old * calls_in old = ap (λ m. ats_in m * calls_in old) is in
      omega arith

  some_of : (n : ℕ) (dropped : Bool) → dropped ≡ true → dropped ≡ nat_lt 0 n → 0 < n
  some_of zero dropped h told = absurd (never (sym h ∙ told))
    where
      never : true ≡ false → ⊥
      never e = cc
  some_of (suc n) dropped h told = omega arith

  pub sweep_fewer : (old new : Mark) (places : List Place) (count : ℕ) (dropped : Bool) → IsSweep which table wanted old new places count dropped → dropped ≡ true → ats_in new < ats_in old
  sweep_fewer old new places count dropped sweep h =
      let some : 0 < length sweep.done = some_of (length sweep.done) dropped h sweep.told in
      let all : ats_in new + length sweep.done ≡ ats_in old = follows-ats sweep.done old new sweep.follows in
      omega arith

  in_range : (places : List Place) (k : ℕ) (place : Place) → slice_get places k ≡ Some place → k < length places
  in_range [] k place h = cc
  in_range (first ∷ places) zero place h = omega arith
  in_range (first ∷ places) (suc k) place h = let less : k < length places = in_range places k place h in omega arith

  pub sweep_settles : (old mark new : Mark) (places done : List Place) (dropped : Bool) → Follows which table wanted old mark done → IsSweep which table wanted mark new places (length places) dropped
      → dropped ≡ false → IsSettled which table wanted old new places
  sweep_settles old mark new places done dropped h sweep low = record {
    done = done ++ sweep.done;
    follows = follows-both done sweep.done old mark new h sweep.follows;
    none_can = λ k place at. sweep.none_can low k place (in_range places k place at) at;
  }

-- the questions of a sweep, of c calls each: over n places before this one, with a0 `@`s at first, a1 before this trial and a2 after it
pub sweep_paid : (c a0 a1 a2 n start before after : ℕ) → before + a1 * c ≤ start + (n + a0) * c → after + a2 * c ≤ before + a1 * c + c → after + a2 * c ≤ start + (n + 1 + a0) * c
sweep_paid c a0 a1 a2 n start before after h trial =
    let all : (n + 1 + a0) * c ≡ (n + 1) * c + a0 * c = add-mul (n + 1) a0 c in
    let one : (n + 1) * c ≡ n * c + 1 * c = add-mul n 1 c in
    let now : (n + a0) * c ≡ n * c + a0 * c = add-mul n a0 c in
    omega arith

-- and of all sweeps over m places, of which one more is done
pub sweeps_paid : (c m a0 a1 a2 start before after : ℕ) → a2 < a1 → before + a1 * (m * c + c) ≤ start + a0 * (m * c + c) → after + a2 * c ≤ before + (m + a1) * c
    → after + a2 * (m * c + c) ≤ start + a0 * (m * c + c)
sweeps_paid c m a0 a1 a2 start before after fewer h sweep =
    let whole : (m + a1) * c ≡ m * c + a1 * c = add-mul m a1 c in
    let old : a1 * (m * c + c) ≡ a1 * (m * c) + a1 * c = mul-add a1 (m * c) c in
    let new : a2 * (m * c + c) ≡ a2 * (m * c) + a2 * c = mul-add a2 (m * c) c in
    let rise : (a2 + 1) * (m * c) ≤ a1 * (m * c) = mul-le-mul_right (m * c) (omega arith) in
    let more : (a2 + 1) * (m * c) ≡ a2 * (m * c) + 1 * (m * c) = add-mul a2 1 (m * c) in
    omega arith

pub last_paid : (c m a0 a1 a2 start before after : ℕ) → before + a1 * (m * c + c) ≤ start + a0 * (m * c + c) → after + a2 * c ≤ before + (m + a1) * c
    → after ≤ start + ((a0 + 1) * m + a0) * c
last_paid c m a0 a1 a2 start before after h sweep =
    let whole : (m + a1) * c ≡ m * c + a1 * c = add-mul m a1 c in
    let old : a1 * (m * c + c) ≡ a1 * (m * c) + a1 * c = mul-add a1 (m * c) c in
    let first : a0 * (m * c + c) ≡ a0 * (m * c) + a0 * c = mul-add a0 (m * c) c in
    let all : ((a0 + 1) * m + a0) * c ≡ (a0 + 1) * m * c + a0 * c = add-mul ((a0 + 1) * m) a0 c in
    let one : (a0 + 1) * m * c ≡ (a0 + 1) * (m * c) = mul_assoc (a0 + 1) m c in
    let more : (a0 + 1) * (m * c) ≡ a0 * (m * c) + 1 * (m * c) = add-mul a0 1 (m * c) in
    omega arith
