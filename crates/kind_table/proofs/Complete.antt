-- The order of names that the program searches: the names in it ascend, and every kind that has a name is in it. Both are
-- computed on the lists themselves.
use Rattle.std.proofs.Common.{◌≡◌, ℕ, zero, suc, ◌+◌, ◌<◌, Bool, true, false, ◌&&◌, ◌||◌, eqb, nat_lt, List, [], ◌∷◌, length, slice_get, Option, Some, None, is_some, option_map, unwrap_or, Contains, ◌⊎◌, inl, inr, ⊎_elim, refl, sym, ap, ◌∙◌, arith, lit<}
use Rattle.std.specs.Cmp.Lexicographic.{slice_cmp}
use Rattle.std.specs.Ordering.{nat_cmp, is_lt}
use Rattle.std.proofs.lemmas.Bool.Decides.{nat_tests, Decides-below_and}
use Rattle.std.proofs.lemmas.Option.{slice_get_within, slice_get_past}
use Rattle.call_core.specs.declared.function.Function.{Function}
use Rattle.call_core.specs.declared.function.Function.TheVariants.{Unique, Filter, Take, Drop, Expand, Hstack, Vstack, Choosecols, Chooserows, Tocol, Torow, Transpose, Trimrange, Wrapcols, Wraprows, Sequence, Index, Offset, Choose, Row, Rows, Column, Columns, Indirect, Address, Areas, Formulatext, Arraytotext, Textsplit, Sort, Sortby, Let, Lambda, Map, Reduce, Scan, Byrow, Bycol, Makearray, Other}
use Rattle.kind_table.specs.CrateTable.{kinds}
use Rattle.kind_table.specs.Names.{names, crate_name, own_name, own_names, function_name, in_order}

abbrev pub text : Function → List ℕ
text kind = unwrap_or (function_name kind) []

-- ---- the names ascend

abbrev pub ascends_after : Function → List Function → Bool
ascends_after kind [] = true
ascends_after kind (next ∷ rest) = is_lt (slice_cmp nat_cmp (text kind) (text next)) && ascends_after next rest

abbrev pub ascends : List Function → Bool
ascends [] = true
ascends (kind ∷ rest) = ascends_after kind rest

abbrev pub have_names : List Function → Bool
have_names [] = true
have_names (kind ∷ rest) = is_some (function_name kind) && have_names rest

pub in_order_has_names : have_names in_order ≡ true
unfolding in_order names own_names
in_order_has_names = refl

pub in_order_ascends : ascends in_order ≡ true
unfolding in_order names own_names
in_order_ascends = refl

-- ---- every number is there

abbrev is_number : ℕ → Function → Bool
is_number id (Other number) = eqb number id
is_number id kind = false

abbrev has_number : ℕ → List Function → Bool
has_number id [] = false
has_number id (kind ∷ rest) = is_number id kind || has_number id rest

abbrev has_numbers_below : ℕ → List Function → Bool
has_numbers_below zero rest = true
has_numbers_below (suc id) rest = has_number id rest && has_numbers_below id rest

pub in_order_has_numbers : has_numbers_below 458 in_order ≡ true
unfolding in_order
in_order_has_numbers = refl

length-names : length names ≡ 458
unfolding names
length-names = refl

length-kinds : length kinds ≡ length names
unfolding kinds names
length-kinds = refl

-- ---- every own kind is there

length-own_names : length own_names ≡ 39
unfolding own_names
length-own_names = refl

-- only own kinds have such names
pub other-unnamed : (id : ℕ) → own_name (Other id) ≡ None
other-unnamed id = slice_get_past own_names (39 + id) (omega (arith, length-own_names))

pub of_own : (kind : Function) → (own_name kind ≡ None → ⊥) → Contains in_order kind
unfolding in_order
of_own Unique named = (464, lit< tt, refl)
of_own Filter named = (156, lit< tt, refl)
of_own Take named = (429, lit< tt, refl)
of_own Drop named = (127, lit< tt, refl)
of_own Expand named = (147, lit< tt, refl)
of_own Hstack named = (198, lit< tt, refl)
of_own Vstack named = (476, lit< tt, refl)
of_own Choosecols named = (62, lit< tt, refl)
of_own Chooserows named = (63, lit< tt, refl)
of_own Tocol named = (449, lit< tt, refl)
of_own Torow named = (451, lit< tt, refl)
of_own Transpose named = (452, lit< tt, refl)
of_own Trimrange named = (456, lit< tt, refl)
of_own Wrapcols named = (483, lit< tt, refl)
of_own Wraprows named = (484, lit< tt, refl)
of_own Sequence named = (392, lit< tt, refl)
of_own Index named = (231, lit< tt, refl)
of_own Offset named = (329, lit< tt, refl)
of_own Choose named = (61, lit< tt, refl)
of_own Row named = (382, lit< tt, refl)
of_own Rows named = (383, lit< tt, refl)
of_own Column named = (66, lit< tt, refl)
of_own Columns named = (67, lit< tt, refl)
of_own Indirect named = (232, lit< tt, refl)
of_own Address named = (7, lit< tt, refl)
of_own Areas named = (12, lit< tt, refl)
of_own Formulatext named = (174, lit< tt, refl)
of_own Arraytotext named = (13, lit< tt, refl)
of_own Textsplit named = (443, lit< tt, refl)
of_own Sort named = (404, lit< tt, refl)
of_own Sortby named = (405, lit< tt, refl)
of_own Let named = (263, lit< tt, refl)
of_own Lambda named = (256, lit< tt, refl)
of_own Map named = (276, lit< tt, refl)
of_own Reduce named = (369, lit< tt, refl)
of_own Scan named = (386, lit< tt, refl)
of_own Byrow named = (47, lit< tt, refl)
of_own Bycol named = (46, lit< tt, refl)
of_own Makearray named = (275, lit< tt, refl)
of_own (Other id) named = absurd (named (other-unnamed id))

-- ---- so every kind that has a name

is_number-true : (id : ℕ) (kind : Function) → is_number id kind ≡ true → kind ≡ Other id
is_number-true id (Other number) h = ap Other (grind (arith, nat_tests))
is_number-true id kind h = cc

contained_later : (kind first : Function) (rest : List Function) → Contains rest kind → Contains (first ∷ rest) kind
contained_later kind first rest at = (suc at.0, omega arith, at.2)

either : (a b : Bool) → (a || b) ≡ true → (a ≡ true) ⊎ (b ≡ true)
either true b h = inl refl
either false b h = inr h

contained_number : (id : ℕ) (rest : List Function) → has_number id rest ≡ true → Contains rest (Other id)
contained_number id [] h = cc
contained_number id (kind ∷ rest) h =
    ⊎_elim
    (λ (here : is_number id kind ≡ true). let first : kind ≡ Other id = is_number-true id kind here in let at : Contains (kind ∷ rest) (Other id) = (0, omega arith, first) in at)
    (λ (later : has_number id rest ≡ true). contained_later (Other id) kind rest (contained_number id rest later))
    (either (is_number id kind) (has_number id rest) h)

numbered : (id : ℕ) → id < 458 → Contains in_order (Other id)
numbered id below =
    let all = Decides-below_and (λ k. has_number k in_order) (λ k. has_number k in_order ≡ true) (λ n. has_numbers_below n in_order) (λ k. (λ h. h, λ h. h)) refl (λ n. refl) 458 in
    contained_number id in_order (all.0 in_order_has_numbers id below)

pub contained : (kind : Function) (name : List ℕ) → function_name kind ≡ Some name → Contains in_order kind
contained (Other id) name h =
    numbered id (let within : id < length names = slice_get_within names id name h in omega (arith, length-names))
contained kind name h = of_own kind (λ none. cc)

-- ---- the numbers that have a name are those that the table knows

is_some-option_map : {A B : Type 0} (f : A → B) (o : Option A) → is_some (option_map f o) ≡ is_some o
is_some-option_map f None = refl
is_some-option_map f (Some x) = refl

past_none : (i : ℕ) → false ≡ nat_lt i 0
past_none i = grind (arith, nat_tests)

first_there : (n : ℕ) → true ≡ nat_lt 0 (suc n)
first_there n = grind (arith, nat_tests)

one_further : (i n : ℕ) → nat_lt i n ≡ nat_lt (suc i) (suc n)
one_further i n = grind (arith, nat_tests)

is_some-slice_get : {A : Type 0} (xs : List A) (i : ℕ) → is_some (slice_get xs i) ≡ nat_lt i (length xs)
is_some-slice_get [] i = past_none i
is_some-slice_get (x ∷ xs) zero = first_there (length xs)
is_some-slice_get (x ∷ xs) (suc i) = is_some-slice_get xs i ∙ one_further i (length xs)

pub named-known : {A : Type 0} (now : A → List ℕ) (o : Option A) (id : ℕ) → option_map now o ≡ crate_name id → is_some o ≡ nat_lt id (length kinds)
named-known now o id h = sym (is_some-option_map now o) ∙ ap is_some h ∙ is_some-slice_get names id ∙ ap (nat_lt id) (sym length-kinds)
