-- Formulas with `@`s dropped, node by node.
--   Trimmed        the run over each node is a part of the other's
--   trims, drops_of  that is to say, the formula is the other one with `@`s dropped
--   trimmed-same   with as many `@`s it is the other one
--   dropped-itself, dropped-more  nothing dropped; dropped, and dropped again
use Rattle.std.proofs.Common.{◌≡◌, ℕ, zero, suc, ◌≤◌, [], ◌∷◌, length, None, inl, inr, refl, ap, ap₂, ◌∙◌, arith}
use Rattle.std.specs.Prelude.{⊤}
use Rattle.std.specs.Option.{option_map_or}
use Rattle.tree_core.specs.Count.{ats_of, ats_of_all}
use Rattle.tree_core.specs.Label.{Label}
use Rattle.tree_core.specs.Tree.{Run, Tree, tree, Trees, none, more, run_of, label_of, children_of, skeleton, skeletons}
use Rattle.tree_core.specs.Place.{Place, at, child, run_at}
use Rattle.import_core.specs.Dropped.{IsSubsequence, Dropped}

abbrev mutual
  pub Trimmed : Tree → Tree → Type 0
  Trimmed (tree r l ts) (tree s m us) = IsSubsequence r s × ((l ≡ m) × AllTrimmed ts us)

  pub AllTrimmed : Trees → Trees → Type 0
  AllTrimmed none none = ⊤
  AllTrimmed none (more u us) = ⊥
  AllTrimmed (more t ts) none = ⊥
  AllTrimmed (more t ts) (more u us) = Trimmed t u × AllTrimmed ts us

-- ---- runs

pub sub-itself : (run : Run) → IsSubsequence run run
sub-itself [] = tt
sub-itself (flag ∷ run) = inl (refl, sub-itself run)

pub sub-length : (part run : Run) → IsSubsequence part run → length part ≤ length run
sub-length [] run h = omega arith
sub-length (flag ∷ part) [] h = absurd h
sub-length (flag ∷ part) (next ∷ run) (inl h) = let rest : length part ≤ length run = sub-length part run h.1 in omega arith
sub-length (flag ∷ part) (next ∷ run) (inr h) = let rest : suc (length part) ≤ length run = sub-length (flag ∷ part) run h in omega arith

pub sub-same : (part run : Run) → IsSubsequence part run → length run ≤ length part → part ≡ run
sub-same [] [] h long = refl
sub-same [] (next ∷ run) h long = absurd (omega arith)
sub-same (flag ∷ part) [] h long = absurd h
sub-same (flag ∷ part) (next ∷ run) (inl h) long = ap₂ (λ f r. f ∷ r) h.0 (sub-same part run h.1 (omega arith))
sub-same (flag ∷ part) (next ∷ run) (inr h) long = let rest : suc (length part) ≤ length run = sub-length (flag ∷ part) run h in absurd (omega arith)

sub-of-none : (part run : Run) → IsSubsequence part [] → IsSubsequence part run
sub-of-none [] run h = tt
sub-of-none (flag ∷ part) run h = absurd h

pub sub-behind : (part run : Run) (flag : _) → IsSubsequence part run → IsSubsequence part (flag ∷ run)
sub-behind [] run flag h = tt
sub-behind (first ∷ part) run flag h = inr h

pub sub-more : (a b c : Run) → IsSubsequence a b → IsSubsequence b c → IsSubsequence a c
sub-more [] b c h k = tt
sub-more (x ∷ a) [] c h k = absurd h
sub-more (x ∷ a) (y ∷ b) [] h k = absurd k
sub-more (x ∷ a) (y ∷ b) (z ∷ c) (inl h) (inl k) = inl (h.0 ∙ k.0, sub-more a b c h.1 k.1)
sub-more (x ∷ a) (y ∷ b) (z ∷ c) (inr h) (inl k) = inr (sub-more (x ∷ a) b c h k.1)
sub-more (x ∷ a) (y ∷ b) (z ∷ c) h (inr k) = inr (sub-more (x ∷ a) (y ∷ b) c h k)

-- ---- formulas

abbrev first : Tree → Trees → Tree
first t none = t
first t (more u us) = u

abbrev rest : Trees → Trees
rest none = none
rest (more u us) = us

abbrev pub run_in : Trees → ℕ → Place → Run
run_in ts i place = option_map_or run_of (option_map_or (λ c. at c place) (child ts i) None) []

mutual
  pub trims : (a b : Tree) → skeleton a ≡ skeleton b → ((place : Place) → IsSubsequence (run_at a place) (run_at b place)) → Trimmed a b
  trims (tree r l ts) (tree s m us) same runs = (runs [], (ap label_of same, all_trims ts us (ap children_of same) (λ i place. runs (i ∷ place))))

  all_trims : (ts us : Trees) → skeletons ts ≡ skeletons us → ((i : ℕ) (place : Place) → IsSubsequence (run_in ts i place) (run_in us i place)) → AllTrimmed ts us
  all_trims none none same runs = tt
  all_trims none (more u us) same runs = cc
  all_trims (more t ts) none same runs = cc
  all_trims (more t ts) (more u us) same runs = (trims t u (ap (first t) same) (λ place. runs zero place), all_trims ts us (ap rest same) (λ i place. runs (suc i) place))

mutual
  same_skeleton : (a b : Tree) → Trimmed a b → skeleton a ≡ skeleton b
  same_skeleton (tree r l ts) (tree s m us) h = ap₂ (tree []) h.1.0 (same_skeletons ts us h.1.1)

  same_skeletons : (ts us : Trees) → AllTrimmed ts us → skeletons ts ≡ skeletons us
  same_skeletons none none h = refl
  same_skeletons none (more u us) h = absurd h
  same_skeletons (more t ts) none h = absurd h
  same_skeletons (more t ts) (more u us) h = ap₂ more (same_skeleton t u h.0) (same_skeletons ts us h.1)

mutual
  parts : (a b : Tree) → Trimmed a b → (place : Place) → IsSubsequence (run_at a place) (run_at b place)
  parts (tree r l ts) (tree s m us) h [] = h.0
  parts (tree r l ts) (tree s m us) h (i ∷ place) = all_parts ts us h.1.1 i place

  all_parts : (ts us : Trees) → AllTrimmed ts us → (i : ℕ) (place : Place) → IsSubsequence (run_in ts i place) (run_in us i place)
  all_parts none none h i place = tt
  all_parts none (more u us) h i place = absurd h
  all_parts (more t ts) none h i place = absurd h
  all_parts (more t ts) (more u us) h zero place = parts t u h.0 place
  all_parts (more t ts) (more u us) h (suc i) place = all_parts ts us h.1 i place

pub drops_of : (a b : Tree) → Trimmed a b → Dropped a b
drops_of a b h = record { same_skeleton = same_skeleton a b h; runs = parts a b h }

pub trims_of : (a b : Tree) → Dropped a b → Trimmed a b
trims_of a b h = trims a b h.same_skeleton h.runs

mutual
  pub trimmed-itself : (t : Tree) → Trimmed t t
  trimmed-itself (tree r l ts) = (sub-itself r, (refl, all_trimmed-itself ts))

  pub all_trimmed-itself : (ts : Trees) → AllTrimmed ts ts
  all_trimmed-itself none = tt
  all_trimmed-itself (more t ts) = (trimmed-itself t, all_trimmed-itself ts)

pub dropped-itself : (t : Tree) → Dropped t t
dropped-itself t = drops_of t t (trimmed-itself t)

pub dropped-more : (a b c : Tree) → Dropped a b → Dropped b c → Dropped a c
dropped-more a b c h k = record {
  same_skeleton = h.same_skeleton ∙ k.same_skeleton;
  runs = λ place. sub-more (run_at a place) (run_at b place) (run_at c place) (h.runs place) (k.runs place);
}

-- ---- how many `@`s

mutual
  pub fewer : (a b : Tree) → Trimmed a b → ats_of a ≤ ats_of b
  fewer (tree r l ts) (tree s m us) h =
      let here : length r ≤ length s = sub-length r s h.0 in
      let there : ats_of_all ts ≤ ats_of_all us = all_fewer ts us h.1.1 in
      omega arith

  pub all_fewer : (ts us : Trees) → AllTrimmed ts us → ats_of_all ts ≤ ats_of_all us
  all_fewer none none h = omega arith
  all_fewer none (more u us) h = absurd h
  all_fewer (more t ts) none h = absurd h
  all_fewer (more t ts) (more u us) h =
      let here : ats_of t ≤ ats_of u = fewer t u h.0 in
      let there : ats_of_all ts ≤ ats_of_all us = all_fewer ts us h.1 in
      omega arith

tree_is : {r s : Run} {l m : Label} {ts us : Trees} → r ≡ s → l ≡ m → ts ≡ us → tree r l ts ≡ tree s m us
tree_is p q e = cc

mutual
  pub trimmed-same : (a b : Tree) → Trimmed a b → ats_of b ≤ ats_of a → a ≡ b
  trimmed-same (tree r l ts) (tree s m us) h many =
      let here : length r ≤ length s = sub-length r s h.0 in
      let there : ats_of_all ts ≤ ats_of_all us = all_fewer ts us h.1.1 in
      tree_is (sub-same r s h.0 (omega arith)) h.1.0 (all_trimmed-same ts us h.1.1 (omega arith))

  pub all_trimmed-same : (ts us : Trees) → AllTrimmed ts us → ats_of_all us ≤ ats_of_all ts → ts ≡ us
  all_trimmed-same none none h many = refl
  all_trimmed-same none (more u us) h many = absurd h
  all_trimmed-same (more t ts) none h many = absurd h
  all_trimmed-same (more t ts) (more u us) h many =
      let here : ats_of t ≤ ats_of u = fewer t u h.0 in
      let there : ats_of_all ts ≤ ats_of_all us = all_fewer ts us h.1 in
      ap₂ more (trimmed-same t u h.0 (omega arith)) (all_trimmed-same ts us h.1 (omega arith))

pub ruleset trimmed = (trimmed-same)
