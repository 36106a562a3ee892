-- One element of a list that is worked through up to the first error.
use Rattle.std.proofs.Common.{◌≡◌, ℕ, ◌+◌, ◌<◌, ◌≤◌, List, length, get_or, drop, Result, Ok, Err, sym, ap, ◌∙◌}
use Rattle.std.proofs.lemmas.List.{at_drop_more, at_drop_all}
use Rattle.value_core.specs.declared.error.Error.{Error}
use Rattle.kind_values.specs.Counting.{then_do, fold_ok}

turn : {S X : Type 0} (f : S → X → Result S Error) (s : S) (xs : List X) (i : ℕ) (d x : X) → i < length xs → x ≡ get_or xs i d → fold_ok f s (drop i xs) ≡ then_do (λ t. fold_ok f t (drop (i + 1) xs)) (f s x)
turn f s xs i d x h e = at_drop_more (fold_ok f s) xs i d h ∙ ap (λ y. then_do (λ t. fold_ok f t (drop (i + 1) xs)) (f s y)) (sym e)

pub fold_ok-more : {S X : Type 0} (f : S → X → Result S Error) (s t : S) (xs : List X) (i : ℕ) (d x : X) → i < length xs → x ≡ get_or xs i d → f s x ≡ Ok t → fold_ok f t (drop (i + 1) xs) ≡ fold_ok f s (drop i xs)
fold_ok-more f s t xs i d x h e p = sym (turn f s xs i d x h e ∙ ap (then_do (λ t. fold_ok f t (drop (i + 1) xs))) p)

pub fold_ok-failed : {S X : Type 0} (f : S → X → Result S Error) (s : S) (w : Error) (r : Result S Error) (xs : List X) (i : ℕ) (d x : X) → i < length xs → x ≡ get_or xs i d → f s x ≡ Err w → fold_ok f s (drop i xs) ≡ r → Err w ≡ r
fold_ok-failed f s w r xs i d x h e p q = sym (turn f s xs i d x h e ∙ ap (then_do (λ t. fold_ok f t (drop (i + 1) xs))) p) ∙ q

pub fold_ok-end : {S X : Type 0} (f : S → X → Result S Error) (s : S) (xs : List X) (i : ℕ) → length xs ≤ i → fold_ok f s (drop i xs) ≡ Ok s
fold_ok-end f s xs i h = at_drop_all (fold_ok f s) xs i h

pub ruleset folds = (fold_ok-more, fold_ok-failed, fold_ok-end)
