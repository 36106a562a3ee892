-- The pieces of a text, found from its front.
--   rest_pieces   the pieces from a start on, of which the bytes before some place are known to match nothing
--   rest-passed   a byte inside a delimiter
--   rest-missed   a byte of a piece
--   rest-cut      a delimiter
--   rest-end      the last piece
--   rest-first    all pieces
--   uncut         the one piece where there are no delimiters
--   kept-cut, kept-end   what is kept of them
use Rattle.std.proofs.Common.{◌≡◌, ℕ, zero, suc, ◌+◌, ◌-◌, ◌<◌, ◌≤◌, Bool, List, [], ◌∷◌, ◌++◌, length, get_or, take, drop, Option, Some, None, refl, sym, ap, ap₂, ◌∙◌, append_assoc, arith}
use Rattle.std.specs.List.{filter}
use Rattle.std.proofs.lemmas.List.{at_drop_more, append-nil, drop_all, get_or-drop, length-drop, take_more}
use Rattle.std.proofs.lemmas.List.Elements.{filter-append}
use Rattle.split_core.specs.Pieces.{cut_at, in_front, matched, pieces, pieces_past}

unfoldable pub rest_pieces : Bool → List (List ℕ) → List ℕ → (start place : ℕ) → List (List ℕ)
rest_pieces b ds xs start place = in_front (take (place - start) (drop start xs)) (pieces_past b ds (start - place) (drop place xs))

front-nothing : (ps : List (List ℕ)) → in_front [] ps ≡ ps
front-nothing [] = refl
front-nothing (p ∷ ps) = refl

front-more : (bytes more : List ℕ) (ps : List (List ℕ)) → in_front bytes (in_front more ps) ≡ in_front (bytes ++ more) ps
front-more bytes more [] = refl
front-more bytes more (p ∷ ps) = ap (λ q. q ∷ ps) (sym (append_assoc bytes more p))

past-byte : (b : Bool) (ds : List (List ℕ)) (n c : ℕ) (cs : List ℕ) → 0 < n → pieces_past b ds n (c ∷ cs) ≡ pieces_past b ds (n - 1) cs
past-byte b ds zero c cs h = absurd (omega (arith, h))
past-byte b ds (suc n) c cs h = ap (λ m. pieces_past b ds m cs) (let e : n ≡ suc n - 1 = omega arith in e)

at-byte : (b : Bool) (ds : List (List ℕ)) (xs : List ℕ) (i : ℕ) (o : Option ℕ) → i < length xs → matched b ds (drop i xs) ≡ o
    → pieces_past b ds 0 (drop i xs) ≡ cut_at o (get_or xs i 0) (λ n. pieces_past b ds n (drop (i + 1) xs))
at-byte b ds xs i o h e = at_drop_more (pieces_past b ds 0) xs i 0 h
    ∙ ap (λ r. cut_at r (get_or xs i 0) (λ n. pieces_past b ds n (drop (i + 1) xs))) (sym (at_drop_more (matched b ds) xs i 0 h) ∙ e)

nothing-before : (xs : List ℕ) (start place : ℕ) → place ≤ start → take (place - start) (drop start xs) ≡ []
nothing-before xs start place h = ap (λ n. take n (drop start xs)) (let e : place - start ≡ 0 = omega (arith, h) in e)

pub rest-passed : (b : Bool) (ds : List (List ℕ)) (xs : List ℕ) (start place : ℕ) → place < length xs → place < start → rest_pieces b ds xs start (place + 1) ≡ rest_pieces b ds xs start place
unfolding rest_pieces
rest-passed b ds xs start place h k =
    ap₂ (λ front ps. in_front front ps) (nothing-before xs start (place + 1) (omega (arith, k)) ∙ sym (nothing-before xs start place (omega (arith, k))))
    (ap (λ n. pieces_past b ds n (drop (place + 1) xs)) (let e : start - (place + 1) ≡ (start - place) - 1 = omega arith in e)
    ∙ sym (at_drop_more (pieces_past b ds (start - place)) xs place 0 h ∙ past-byte b ds (start - place) (get_or xs place 0) (drop (place + 1) xs) (omega (arith, k))))

one-more : (xs : List ℕ) (start place : ℕ) → place < length xs → start ≤ place → take (place + 1 - start) (drop start xs) ≡ take (place - start) (drop start xs) ++ get_or xs place 0 ∷ []
one-more xs start place h k =
    ap (λ n. take n (drop start xs)) (let e : place + 1 - start ≡ place - start + 1 = omega (arith, k) in e)
    ∙ take_more (drop start xs) (place - start) 0 (omega (arith, h, k, length-drop start xs))
    ∙ ap (λ c. take (place - start) (drop start xs) ++ c ∷ []) (get_or-drop start xs (place - start) 0 ∙ ap (λ i. get_or xs i 0) (let e : start + (place - start) ≡ place = omega (arith, k) in e))

none-to-pass : (b : Bool) (ds : List (List ℕ)) (ys : List ℕ) (m : ℕ) → m ≡ 0 → pieces_past b ds m ys ≡ pieces_past b ds 0 ys
none-to-pass b ds ys m e = ap (λ n. pieces_past b ds n ys) e

pub rest-missed : (b : Bool) (ds : List (List ℕ)) (xs : List ℕ) (start place : ℕ) → place < length xs → start ≤ place → matched b ds (drop place xs) ≡ None → rest_pieces b ds xs start (place + 1) ≡ rest_pieces b ds xs start place
unfolding rest_pieces
rest-missed b ds xs start place h k e =
    let front : List ℕ = take (place - start) (drop start xs) in
    let c : ℕ = get_or xs place 0 in
    ap₂ (λ front ps. in_front front ps) (one-more xs start place h k) (none-to-pass b ds (drop (place + 1) xs) (start - (place + 1)) (omega (arith, k)))
    ∙ sym (front-more front (c ∷ []) (pieces_past b ds 0 (drop (place + 1) xs)))
    ∙ ap (in_front front) (sym (none-to-pass b ds (drop place xs) (start - place) (omega (arith, k)) ∙ at-byte b ds xs place None h e))

pub rest-cut : (b : Bool) (ds : List (List ℕ)) (xs : List ℕ) (start place n : ℕ) → place < length xs → start ≤ place → 1 ≤ n → matched b ds (drop place xs) ≡ Some n
    → rest_pieces b ds xs start place ≡ take (place - start) (drop start xs) ∷ rest_pieces b ds xs (place + n) (place + 1)
unfolding rest_pieces
rest-cut b ds xs start place n h k some e =
    let front : List ℕ = take (place - start) (drop start xs) in
    let behind : List (List ℕ) = pieces_past b ds (n - 1) (drop (place + 1) xs) in
    ap (in_front front) (none-to-pass b ds (drop place xs) (start - place) (omega (arith, k)) ∙ at-byte b ds xs place (Some n) h e)
    ∙ ap (λ p. p ∷ behind) (append-nil front)
    ∙ ap (λ ps. front ∷ ps) (sym (
    ap₂ (λ f ps. in_front f ps) (nothing-before xs (place + n) (place + 1) (omega (arith, some))) (ap (λ m. pieces_past b ds m (drop (place + 1) xs)) (let f : place + n - (place + 1) ≡ n - 1 = omega (arith, some) in f))
    ∙ front-nothing behind))

pub rest-end : (b : Bool) (ds : List (List ℕ)) (xs : List ℕ) (start : ℕ) → start ≤ length xs → rest_pieces b ds xs start (length xs) ≡ take (length xs - start) (drop start xs) ∷ []
unfolding rest_pieces
rest-end b ds xs start h =
    let front : List ℕ = take (length xs - start) (drop start xs) in
    ap (λ ys. in_front front (pieces_past b ds (start - length xs) ys)) (drop_all (length xs) xs (omega arith))
    ∙ ap (λ p. p ∷ []) (append-nil front)

pub rest-first : (b : Bool) (ds : List (List ℕ)) (xs : List ℕ) → rest_pieces b ds xs 0 0 ≡ pieces b ds xs
unfolding rest_pieces
rest-first b ds xs = front-nothing (pieces_past b ds 0 xs)

pub uncut : (b : Bool) (xs : List ℕ) → pieces b [] xs ≡ xs ∷ []
uncut b [] = refl
uncut b (x ∷ xs) = ap (in_front (x ∷ [])) (uncut b xs)

-- the same of those that are kept, behind what was found before
pub kept-cut : (q : List ℕ → Bool) (b : Bool) (ds : List (List ℕ)) (xs : List ℕ) (start place n : ℕ) (found more all : List (List ℕ)) → place < length xs → start ≤ place → 1 ≤ n → matched b ds (drop place xs) ≡ Some n
    → more ≡ found ++ filter q (take (place - start) (drop start xs) ∷ []) → found ++ filter q (rest_pieces b ds xs start place) ≡ all → more ++ filter q (rest_pieces b ds xs (place + n) (place + 1)) ≡ all
kept-cut q b ds xs start place n found more all h k some e put before =
    let piece : List ℕ = take (place - start) (drop start xs) in
    let behind : List (List ℕ) = rest_pieces b ds xs (place + n) (place + 1) in
    ap (λ front. front ++ filter q behind) put
    ∙ append_assoc found (filter q (piece ∷ [])) (filter q behind)
    ∙ ap (λ rest. found ++ rest) (sym (filter-append q (piece ∷ []) behind) ∙ ap (filter q) (sym (rest-cut b ds xs start place n h k some e)))
    ∙ before

pub kept-end : (q : List ℕ → Bool) (b : Bool) (ds : List (List ℕ)) (xs : List ℕ) (start place : ℕ) (found more all : List (List ℕ)) → start ≤ length xs → place ≡ length xs
    → more ≡ found ++ filter q (take (length xs - start) (drop start xs) ∷ []) → found ++ filter q (rest_pieces b ds xs start place) ≡ all → more ≡ all
kept-end q b ds xs start place found more all h e put before =
    put ∙ ap (λ ps. found ++ filter q ps) (sym (ap (rest_pieces b ds xs start) e ∙ rest-end b ds xs start h)) ∙ before

pub ruleset cutting = (rest-passed, rest-missed, rest-cut, rest-end, rest-first)
