-- The first place and the last one.
--   start-is   the place behind the last `!`
--   first-is   the first text that passes
--   none-is    no text passes
use Rattle.std.proofs.Common.{◌≡◌, ℕ, ◌-◌, ◌<◌, ◌≤◌, Bool, true, false, cond, ltb, List, [], length, get_or, Some, None, sym, ap, ap₂, position, arith}
use Rattle.std.specs.List.{position_or_len, suffix_len}
use Rattle.std.proofs.lemmas.Bool.Decides.{nat_tests}
use Rattle.std.proofs.lemmas.List.Sums.{position_or_len_is, suffix_len_is}
use Rattle.reader_core.specs.Sheet.{body_start, is_no_mark}

pub start-is : (text : List ℕ) (n : ℕ) → n ≤ length text → ((k : ℕ) → n ≤ k → k < length text → is_no_mark (get_or text k 0) ≡ true) → (0 < n → get_or text (n - 1) 0 ≡ 33) → n ≡ body_start text
start-is text n within none mark =
    let e : suffix_len is_no_mark text ≡ length text - n = suffix_len_is is_no_mark text n 0 within none (λ h. ap is_no_mark (mark h)) in
    omega (arith, e, within)

pub first-is : (p : List ℕ → Bool) (xs : List (List ℕ)) (i : ℕ) → i < length xs → ((k : ℕ) → k < i → p (get_or xs k []) ≡ false) → p (get_or xs i []) ≡ true → Some i ≡ position p xs
first-is p xs i h before here =
    let e : position_or_len p xs ≡ i = position_or_len_is p xs i [] (omega (arith, h)) before (λ _. here) in
    let inside : ltb (position_or_len p xs) (length xs) ≡ true = grind (arith, nat_tests, e, h) in
    sym (ap₂ (λ b n. cond b (Some n) None) inside e)

pub none-is : (p : List ℕ → Bool) (xs : List (List ℕ)) (i : ℕ) → i ≡ length xs → ((k : ℕ) → k < i → p (get_or xs k []) ≡ false) → None ≡ position p xs
none-is p xs i h before =
    let e : position_or_len p xs ≡ i = position_or_len_is p xs i [] (omega (arith, h)) before (λ j. absurd (omega (arith, h, j))) in
    let outside : ltb (position_or_len p xs) (length xs) ≡ false = grind (arith, nat_tests, e, h) in
    sym (ap (λ b. cond b (Some (position_or_len p xs)) None) outside)
