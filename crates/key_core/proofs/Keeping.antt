-- Positions that are kept, one more.
--   kept-more   whether a position is kept decides what the kept ones up to it are
--   seen-more   the keys that were seen, one more
--   once-is     a key comes once exactly where no other position has it
--   counted-more   the counts of the keys, one more
use Rattle.std.proofs.Common.{◌≡◌, ℕ, ◌+◌, ◌<◌, Bool, true, false, cond, not, ◌||◌, ◌&&◌, Option, Some, List, [], ◌∷◌, ◌++◌, length, get_or, take, drop, refl, sym, ap, ap₂, ◌∙◌, arith, add-one, drop-cons}
use Rattle.std.proofs.lemmas.List.{map-id, take-append-drop}
use Rattle.std.proofs.lemmas.List.Folds.{list_any_more}
use Rattle.std.proofs.lemmas.List.FromFn.{filter_of_map_range_with_len_more}
use Rattle.std.proofs.lemmas.List.Sums.{sum_by-append, sum_by-cons, sum_by_more}
use Rattle.std.specs.List.{count_by, filter, list_any, range_with_len}
use Rattle.std.specs.Option.{unwrap_or}
use Rattle.std.proofs.lemmas.Bool.{ne_eqb}
use Rattle.std.proofs.lemmas.Bool.Decides.{nat_tests}
use lib.Dec.{eqb}

pub kept-more : (p : ℕ → Bool) (i : ℕ) (b : Bool) (kept : List ℕ) → p i ≡ b → kept ≡ filter p (range_with_len 0 i) → kept ++ cond b (i ∷ []) [] ≡ filter p (range_with_len 0 (i + 1))
kept-more p i b kept h k =
    ap₂ (λ front now. front ++ cond now (i ∷ []) []) (k ∙ ap (filter p) (sym (map-id (range_with_len 0 i)))) (sym h)
    ∙ sym (filter_of_map_range_with_len_more p (λ x. x) 0 i i (omega arith))
    ∙ ap (filter p) (map-id (range_with_len 0 (i + 1)))

cond-or : (a b : Bool) → cond a true b ≡ (b || a)
cond-or true true = refl
cond-or true false = refl
cond-or false true = refl
cond-or false false = refl

pub seen-more : {K : Type 0} (p : K → Bool) (keys : List K) (i : ℕ) (d : K) (before after : Bool) → i < length keys →
    before ≡ list_any p (take i keys) → after ≡ cond (p (get_or keys i d)) true before → after ≡ list_any p (take (i + 1) keys)
seen-more p keys i d before after l h k =
    k ∙ cond-or (p (get_or keys i d)) before ∙ ap (λ b. b || p (get_or keys i d)) h ∙ sym (list_any_more p keys i d l)

none-counted : {K : Type 0} (p : K → Bool) (keys : List K) → eqb (count_by p keys) 0 ≡ not (list_any p keys)
none-counted p [] = refl
none-counted p (key ∷ keys) = ap (λ n. eqb n 0) (sum_by-cons (λ x. cond (p x) 1 0) key keys) ∙ elim (p key) as (λ b. eqb (cond b 1 0 + count_by p keys) 0 ≡ not (b || list_any p keys)) [
  | true ↦ ne_eqb (1 + count_by p keys) 0 (λ e. omega (arith, e))
  | false ↦ ap (λ n. eqb n 0) (let e : 0 + count_by p keys ≡ count_by p keys = omega arith in e) ∙ none-counted p keys
]

split-counted : {K : Type 0} (p : K → Bool) (keys : List K) (i : ℕ) (d : K) → i < length keys →
    count_by p keys ≡ count_by p (take i keys) + (cond (p (get_or keys i d)) 1 0 + count_by p (drop (i + 1) keys))
split-counted p keys i d l =
    ap (count_by p) (sym (take-append-drop i keys) ∙ ap (λ rest. take i keys ++ rest) (drop-cons keys i d l ∙ ap (λ n. get_or keys i d ∷ drop n keys) (sym (add-one i))))
    ∙ sum_by-append (λ x. cond (p x) 1 0) (take i keys) (get_or keys i d ∷ drop (i + 1) keys)
    ∙ ap (λ n. count_by p (take i keys) + n) (sum_by-cons (λ x. cond (p x) 1 0) (get_or keys i d) (drop (i + 1) keys))

none-beside : (m n : ℕ) → eqb (m + (1 + n)) 1 ≡ (eqb m 0 && eqb n 0)
none-beside m n = grind (arith, nat_tests)

pub once-is : {K : Type 0} (p : K → Bool) (keys : List K) (i : ℕ) (d : K) → i < length keys → p (get_or keys i d) ≡ true →
    eqb (count_by p keys) 1 ≡ (not (list_any p (take i keys)) && not (list_any p (drop (i + 1) keys)))
once-is p keys i d l own =
    ap (λ n. eqb n 1) (split-counted p keys i d l ∙ ap (λ b. count_by p (take i keys) + (cond b 1 0 + count_by p (drop (i + 1) keys))) own)
    ∙ none-beside (count_by p (take i keys)) (count_by p (drop (i + 1) keys))
    ∙ ap₂ (λ a b. a && b) (none-counted p (take i keys)) (none-counted p (drop (i + 1) keys))

once-more : (b : Bool) (found : Option ℕ) (n m : ℕ) → unwrap_or found 0 ≡ m → (b ≡ true → n ≡ m) → unwrap_or (cond b (Some (n + 1)) found) 0 ≡ m + cond b 1 0
once-more true found n m h k = ap (λ x. x + 1) (k refl)
once-more false found n m h k = h ∙ (let e : m ≡ m + 0 = omega arith in e)

pub counted-more : {K : Type 0} (p : K → Bool) (keys : List K) (i : ℕ) (d : K) (b : Bool) (found : Option ℕ) (n : ℕ) → i < length keys → b ≡ p (get_or keys i d) →
    unwrap_or found 0 ≡ count_by p (take i keys) → (b ≡ true → n ≡ count_by p (take i keys)) → unwrap_or (cond b (Some (n + 1)) found) 0 ≡ count_by p (take (i + 1) keys)
counted-more p keys i d b found n l e h k =
    once-more b found n (count_by p (take i keys)) h k ∙ ap (λ own. count_by p (take i keys) + cond own 1 0) e ∙ sym (sum_by_more (λ x. cond (p x) 1 0) keys i d l)
