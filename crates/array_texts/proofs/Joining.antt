-- Texts that are joined one by one.
--   joined-step   one text more, with the text between before it unless it is the first
--   added-step    the same behind what stood there before
use Rattle.std.proofs.Common.{◌≡◌, ℕ, zero, suc, ◌+◌, ◌<◌, eqb, cond, false, List, [], ◌∷◌, ◌++◌, length, get_or, map, take, sym, ap, ◌∙◌, append_assoc, arith}
use Rattle.std.proofs.lemmas.Bool.Decides.{nat_tests}
use Rattle.std.proofs.lemmas.List.{append-nil, flat_map_more, length-map, length-take-le, map_more}
use Rattle.array_texts.specs.ArrayText.{joined}

joined-more : (between x t : List ℕ) (ts : List (List ℕ)) → joined between ((t ∷ ts) ++ x ∷ []) ≡ joined between (t ∷ ts) ++ (between ++ x)
joined-more between x t ts = sym (flat_map_more (λ other. between ++ other) t ts x)

not-first : (n : ℕ) → eqb (suc n) 0 ≡ false
not-first n = grind (arith, nat_tests)

joined-end : (between x : List ℕ) (n : ℕ) (ts : List (List ℕ)) → length ts ≡ n → joined between (ts ++ x ∷ []) ≡ joined between ts ++ (cond (eqb n 0) [] between ++ x)
joined-end between x zero [] e = append-nil x
joined-end between x (suc n) [] e = absurd (omega (arith, e))
joined-end between x zero (t ∷ ts) e = absurd (omega (arith, e))
joined-end between x (suc n) (t ∷ ts) e = joined-more between x t ts ∙ ap (λ first. joined between (t ∷ ts) ++ (cond first [] between ++ x)) (sym (not-first n))

pub joined-step : {X : Type 0} (between : List ℕ) (f : X → List ℕ) (xs : List X) (i : ℕ) (d : X) → i < length xs → joined between (map f (take (i + 1) xs)) ≡ joined between (map f (take i xs)) ++ (cond (eqb i 0) [] between ++ f (get_or xs i d))
joined-step {X} between f xs i d h = ap (joined between) (map_more f xs i d h) ∙ joined-end between (f (get_or xs i d)) i (map f (take i xs)) (length-map (take i xs) f ∙ length-take-le i xs (omega (arith, h)))

pub added-step : {X : Type 0} (between : List ℕ) (f : X → List ℕ) (xs : List X) (i : ℕ) (d : X) (start before middle after : List ℕ) → i < length xs
    → before ≡ start ++ joined between (map f (take i xs)) → middle ≡ before ++ cond (eqb i 0) [] between → after ≡ middle ++ f (get_or xs i d)
    → after ≡ start ++ joined between (map f (take (i + 1) xs))
added-step {X} between f xs i d start before middle after h e g k =
    k ∙ ap (λ t. t ++ f (get_or xs i d)) (g ∙ ap (λ t. t ++ cond (eqb i 0) [] between) e)
    ∙ append_assoc (start ++ joined between (map f (take i xs))) (cond (eqb i 0) [] between) (f (get_or xs i d))
    ∙ append_assoc start (joined between (map f (take i xs))) (cond (eqb i 0) [] between ++ f (get_or xs i d))
    ∙ ap (λ t. start ++ t) (sym (joined-step between f xs i d h))
