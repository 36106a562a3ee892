-- The delimiters of rows, of which the empty ones are left out.
--   kept-more, kept-less   one text more, which stays or not
--   kept-full              none of them is empty
use Rattle.std.proofs.Common.{◌≡◌, ℕ, ◌+◌, ◌<◌, ◌≤◌, eqb, Bool, true, false, ◌&&◌, not, cond, nat_le, List, [], ◌∷◌, ◌++◌, length, get_or, take, refl, sym, ap, ap₂, ◌∙◌, arith, append-nil}
use Rattle.std.specs.List.{filter, list_all}
use Rattle.std.proofs.lemmas.Bool.Decides.{nat_tests}
use Rattle.std.proofs.lemmas.List.{take_more}
use Rattle.std.proofs.lemmas.List.Elements.{filter-append}
use Rattle.split_core.specs.Pieces.{none_empty}
use Rattle.split_core.specs.Split.{stays}

stays-is : (text : List ℕ) (answer : Bool) → eqb (length text) 0 ≡ answer → filter (stays true) (text ∷ []) ≡ cond (not answer) (text ∷ []) []
stays-is text answer e = ap (λ b. cond (not b) (text ∷ []) []) e

filter-more : (texts : List (List ℕ)) (i : ℕ) (text : List ℕ) (answer : Bool) → i < length texts → text ≡ get_or texts i text → eqb (length text) 0 ≡ answer
    → filter (stays true) (take (i + 1) texts) ≡ filter (stays true) (take i texts) ++ cond (not answer) (text ∷ []) []
filter-more texts i text answer h e empty =
    ap (filter (stays true)) (take_more texts i text h) ∙ filter-append (stays true) (take i texts) (get_or texts i text ∷ [])
    ∙ ap (λ t. filter (stays true) (take i texts) ++ filter (stays true) (t ∷ [])) (sym e)
    ∙ ap (λ rest. filter (stays true) (take i texts) ++ rest) (stays-is text answer empty)

pub kept-more : (texts before after : List (List ℕ)) (i : ℕ) (text : List ℕ) → i < length texts → text ≡ get_or texts i text → eqb (length text) 0 ≡ false
    → before ≡ filter (stays true) (take i texts) → after ≡ before ++ text ∷ [] → after ≡ filter (stays true) (take (i + 1) texts)
kept-more texts before after i text h e some f g = g ∙ ap (λ front. front ++ text ∷ []) f ∙ sym (filter-more texts i text false h e some)

pub kept-less : (texts before : List (List ℕ)) (i : ℕ) (text : List ℕ) → i < length texts → text ≡ get_or texts i text → eqb (length text) 0 ≡ true
    → before ≡ filter (stays true) (take i texts) → before ≡ filter (stays true) (take (i + 1) texts)
kept-less texts before i text h e none f = f ∙ sym (append-nil (filter (stays true) (take i texts))) ∙ sym (filter-more texts i text true h e none)

long : (n : ℕ) → eqb n 0 ≡ false → nat_le 1 n ≡ true
long n h = grind (arith, nat_tests, h)

full-one : (text : List ℕ) (texts : List (List ℕ)) (answer : Bool) → eqb (length text) 0 ≡ answer → none_empty texts ≡ true → none_empty (cond (not answer) (text ∷ texts) texts) ≡ true
full-one text texts true e rest = rest
full-one text texts false e rest = ap₂ (λ a b. a && b) (long (length text) e) rest

pub kept-full : (texts : List (List ℕ)) → none_empty (filter (stays true) texts) ≡ true
kept-full [] = refl
kept-full (text ∷ texts) = ap (λ b. none_empty (cond (not b) (text ∷ filter (stays true) texts) (filter (stays true) texts))) refl ∙ full-one text (filter (stays true) texts) (eqb (length text) 0) refl (kept-full texts)

pub ruleset kept = (kept-more, kept-less, kept-full)
