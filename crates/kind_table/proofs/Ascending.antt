-- What a binary search over ascending names finds, and that it misses none.
use Rattle.std.proofs.Common.{◌≡◌, ℕ, zero, suc, ◌<◌, ◌≤◌, true, List, [], ◌∷◌, length, get_or, Ordering, Less, Equal, Greater, refl, sym, ◌∙◌, ⊎_elim, arith, add-one}
use Rattle.std.specs.Cmp.Lexicographic.{slice_cmp}
use Rattle.std.specs.List.Sorted.{IsNonDecreasingBy}
use Rattle.std.specs.Ordering.{nat_cmp, is_lt, ordering_index}
use Rattle.std.proofs.lemmas.Bool.{and_parts, cases_lt}
use Rattle.std.proofs.lemmas.Cmp.{nat_list_cmp_total, alike_right}
use Rattle.std.proofs.lemmas.List.Sorted.{IsNonDecreasingBy-from_all_adjacent}
use Rattle.call_core.specs.declared.function.Function.{Function}
use Rattle.kind_table.proofs.Complete.{text, ascends_after, ascends}

abbrev pub by_bytes : List ℕ → List ℕ → Ordering
by_bytes = slice_cmp nat_cmp

less_from : (o : Ordering) → is_lt o ≡ true → o ≡ Less
less_from Less h = refl
less_from Equal h = cc
less_from Greater h = cc

-- each name is below the next
next_above : (kind : Function) (kinds : List Function) → ascends_after kind kinds ≡ true → (i : ℕ) (d : Function) → suc i < length (kind ∷ kinds) → by_bytes (text (get_or (kind ∷ kinds) i d)) (text (get_or (kind ∷ kinds) (suc i) d)) ≡ Less
next_above kind [] h i d below = absurd (omega arith)
next_above kind (next ∷ kinds) h zero d below = less_from _ (and_parts _ (ascends_after next kinds) h).0
next_above kind (next ∷ kinds) h (suc i) d below =
    next_above next kinds (and_parts (is_lt (by_bytes (text kind) (text next))) (ascends_after next kinds) h).1 i d (omega arith)

adjacent : (kinds : List Function) → ascends kinds ≡ true → (i : ℕ) (d : Function) → suc i < length kinds → by_bytes (text (get_or kinds i d)) (text (get_or kinds (suc i) d)) ≡ Less
adjacent [] h i d below = absurd (omega arith)
adjacent (kind ∷ kinds) h i d below = next_above kind kinds h i d below

-- each name is below every later one
pub above : (kinds : List Function) → ascends kinds ≡ true → (i j : ℕ) (d : Function) → i < j → j < length kinds → by_bytes (text (get_or kinds i d)) (text (get_or kinds j d)) ≡ Less
above kinds h i zero d before below = absurd (omega arith)
above kinds h i (suc j) d before below =
    ⊎_elim
    (λ (earlier : i < j). nat_list_cmp_total.trans (text (get_or kinds i d)) (text (get_or kinds j d)) (text (get_or kinds (suc j) d)) (above kinds h i j d earlier (omega arith)) (adjacent kinds h j d below))
    (λ (last : j ≤ i). let same : i ≡ j = omega arith in rw same (adjacent kinds h j d below))
    (cases_lt i j)

index_below : (x y : Ordering) → (y ≡ Less → x ≡ Less) → (y ≡ Equal → x ≡ Less) → ordering_index x ≤ ordering_index y
index_below x Greater less equal = elim x as (λ o. ordering_index o ≤ 2) [ Less ↦ omega arith | Equal ↦ omega arith | Greater ↦ omega arith ]
index_below x Less less equal = rw (less refl) (omega arith)
index_below x Equal less equal = rw (equal refl) (omega arith)

-- against any name, the answers rise
pub rises : (kinds : List Function) → ascends kinds ≡ true → (name : List ℕ) → IsNonDecreasingBy (λ kind. ordering_index (by_bytes (text kind) name)) kinds
rises kinds h name =
    IsNonDecreasingBy-from_all_adjacent (λ kind. ordering_index (by_bytes (text kind) name)) kinds
    (λ i d below. rw add-one
    (let first = text (get_or kinds i d) in let second = text (get_or kinds (suc i) d) in
    let less : by_bytes first second ≡ Less = adjacent kinds h i d (omega arith) in
    index_below (by_bytes first name) (by_bytes second name)
    (λ e. nat_list_cmp_total.trans first second name less e)
    (λ e. sym (alike_right nat_list_cmp_total second name first e) ∙ less)))
